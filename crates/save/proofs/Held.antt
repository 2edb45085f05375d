-- Records of opened values and of shares, part after part.
use Rattle.std.proofs.Common.{◌≡◌, ℕ, ◌≤◌, Bool, List, [], ◌∷◌, ◌++◌, map, length, sym, ap, ◌∙◌, subst, arith}
use Rattle.steps.specs.declared.parts.Node.{Node}
use Rattle.steps.specs.declared.parts.Node.TheVariants.{Root, At}
use Rattle.steps.specs.declared.parts.ListKind.{ListKind}
use Rattle.steps.specs.declared.parts.Holder.TheVariants.{List as OfList, Object as OfObject}
use Rattle.steps.specs.declared.parts.Share.{Share}
use Rattle.steps.specs.declared.parts.Share.TheVariants.{List as ShareList, Text as ShareText, Object as ShareObject}
use Rattle.redbin.specs.declared.form.Form.TheVariants.{List as is_list, Object as is_object}
use Rattle.steps.specs.Steps.{Tag, open', share}
use Rattle.steps.specs.Outline.{Entry, inner_names, path_to}
use Rattle.redbin.specs.Bytes.{words}
use Rattle.redbin.specs.Layout.{header, context_header}
use Rattle.redbin.specs.Canonical.{index_of, symbols, reference, record_of}
use Rattle.save.specs.Sinks.{Output, Gained}
use Rattle.save.specs.Values.{oldest, There}
use Rattle.save.specs.Records.{share_words}
use Rattle.save.proofs.Oldest.{length_oldest}
use Rattle.save.proofs.Sane.{Under, path_to_oldest}
use Rattle.save.proofs.Runs.{fields_then}

module _ {S : Type 0} (f : S → Output) (all : List Entry) (n : ℕ) (within : n ≤ length all) (place : ℕ) (l : Tag) where
  own : length (inner_names all (At n)) ≡ length (inner_names all (At (length (oldest n all))))
  own = ap (λ k. length (inner_names all (At k))) (sym (length_oldest all n within))

  pub list_recorded : (s t : S) (k : ListKind) (h head count : ℕ) → count ≡ length (inner_names all (At n)) → h ≡ header (is_list k) l.new_line
      → Gained f s (words (h ∷ head ∷ count ∷ [])) t → Gained f s (record_of all (oldest n all) place l (open' (OfList k head))) t
  unfolding record_of
  list_recorded s t k h head count c d g =
      subst (λ x. Gained f s (words (x ∷ head ∷ length (inner_names all (At (length (oldest n all)))) ∷ [])) t) d
      (subst (λ x. Gained f s (words (h ∷ head ∷ x ∷ [])) t) (c ∙ own) g)

  pub object_recorded : (s t u : S) (w m : Bool) (h x k o a count : ℕ) → count ≡ length (inner_names all (At n)) → h ≡ header (is_object w) l.new_line
      → x ≡ context_header m → Gained f s (words (h ∷ k ∷ o ∷ a ∷ x ∷ count ∷ [])) t → Gained f t (words (map (index_of (symbols all)) (inner_names all (At n)))) u
      → Gained f s (record_of all (oldest n all) place l (open' (OfObject w m k o a))) u
  unfolding record_of
  object_recorded s t u w m h x k o a count c d y g i =
      let ns = inner_names all (At n) in
      let q : Gained f s (words (header (is_object w) l.new_line ∷ k ∷ o ∷ a ∷ context_header m ∷ length ns ∷ map (index_of (symbols all)) ns)) u =
      fields_then f 4 s t u (header (is_object w) l.new_line ∷ k ∷ o ∷ a ∷ context_header m ∷ length ns ∷ []) (map (index_of (symbols all)) ns)
      (subst (λ z. Gained f s (words (z ∷ k ∷ o ∷ a ∷ context_header m ∷ length ns ∷ [])) t) d
      (subst (λ z. Gained f s (words (h ∷ k ∷ o ∷ a ∷ z ∷ length ns ∷ [])) t) y
      (subst (λ z. Gained f s (words (h ∷ k ∷ o ∷ a ∷ x ∷ z ∷ [])) t) c g))) i in
      subst (λ j. Gained f s (words (header (is_object w) l.new_line ∷ k ∷ o ∷ a ∷ context_header m ∷ length (inner_names all (At j)) ∷ map (index_of (symbols all)) (inner_names all (At j)))) u)
      (sym (length_oldest all n within)) q

  under : (t : Node) → There (oldest n all) t → Under n t
  under Root h = tt
  under (At m) h = omega (arith, length_oldest all n within)

  share_is : (x : Share) (p : List ℕ) (t : Node) → p ≡ path_to (oldest n all) t → words (share_words l.new_line x ++ reference p) ≡ record_of all (oldest n all) place l (share x t)
  unfolding record_of
  share_is (ShareList k h) p t e = ap (λ q. words (share_words l.new_line (ShareList k h) ++ reference q)) e
  share_is (ShareText k h) p t e = ap (λ q. words (share_words l.new_line (ShareText k h) ++ reference q)) e
  share_is (ShareObject w) p t e = ap (λ q. words (share_words l.new_line (ShareObject w) ++ reference q)) e

  pub share_recorded : (s t u : S) (x : Share) (target : Node) (ws : List ℕ) → There (oldest n all) target → ws ≡ share_words l.new_line x → Gained f s (words ws) t
      → Gained f t (words (reference (path_to all target))) u → Gained f s (record_of all (oldest n all) place l (share x target)) u
  share_recorded s t u x target ws h e g i =
      subst (λ bs. Gained f s bs u) (share_is x (path_to all target) target (sym (path_to_oldest all n target within (under target h))))
      (fields_then f 4 s t u (share_words l.new_line x) (reference (path_to all target)) (subst (λ z. Gained f s (words z) t) e g) i)
