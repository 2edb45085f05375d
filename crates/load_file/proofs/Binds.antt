-- The definitions of lists, objects and values, taken apart where the code is.
use Rattle.std.proofs.Common.{◌≡◌, ℕ, zero, suc, ◌-◌, ◌%◌, ◌<◌, Bool, not, ◌||◌, eqb, List, [], length, replicate, sym, refl, ◌∙◌, arith}
use Rattle.refusal.specs.declared.Reason.TheVariants.{BadType, BadBits, BadIndex, TooDeep}
use Rattle.refusal.specs.declared.Part.TheVariants.{Record}
use Rattle.steps.specs.declared.parts.Holder.TheVariants.{List as OfList, Object as OfObject}
use Rattle.steps.specs.declared.parts.ListKind.{ListKind}
use Rattle.steps.specs.Steps.{Name, Tag, open', begin, close}
use Rattle.redbin.specs.Reading.{Reader as State, Read, Reads, Setting, Heading, got, refused, after, here, word, any_word, run, refuse, refuse_when, room, bare, push, each, hold, named_by, add_list, add_object, add_context, content, heading, value, return, ◌>>=◌, ◌>>◌}
use Rattle.load.specs.Holders.{opened_with, context}
use Rattle.load.proofs.Tabled.{after_after}
use Rattle.load_file.specs.declared.scope.Fields.{Fields}
use Rattle.load_file.specs.Scopes.{Start, list_start, object_start, context_start, held}

pub after_same : {A B : Type 0} (x : Read A) (f g : A → Reads B) → ((a : A) (r : State) → f a r ≡ g a r) → after x f ≡ after x g
unfolding after
after_same (got a r) f g h = h a r
after_same (refused w) f g h = refl

module _ (c : Setting) (one : Name → Reads (Unit {0})) (l : Tag) where
  -- what is held: the open, the values, the close
  pub held_starts : (start : ℕ) (s : Start) (r : State) → held c one start l s r ≡ after (opened_with c start l s.holder r) (λ _. each one s.names >> push c.uses close)
  unfolding hold
  held_starts start s r = sym (after_after (room c start (bare l.name) r) (λ _. push c.uses (begin l (open' s.holder))) (λ _. each one s.names >> push c.uses close))

  abbrev pub listed : ListKind → ℕ → ℕ → Start
  listed k head n = record { holder = OfList k head; names = replicate n [] }

  pub list_by : (start : ℕ) (k : ListKind) (r : State) → add_list c one start l k r ≡ after (list_start k c.size r) (held c one start l)
  unfolding add_list after
  list_by start k r =
      sym (after_after (word c.size Record r) (λ head. word c.size Record >>= λ n. return (listed k head n)) (held c one start l)
      ∙ after_same (word c.size Record r) _ _ (λ head r. after_after (word c.size Record r) (λ n. return (listed k head n)) (held c one start l)))

  abbrev fields_of : Bool → ℕ → ℕ → ℕ → Fields
  fields_of w k t a = record { owner = w; class = k; on_set = t; arity = a }

  abbrev pub context_of : Fields → Reads (Unit {0})
  context_of f = add_context c one l f.owner f.class f.on_set f.arity

  pub object_by : (start : ℕ) (w : Bool) (r : State) → add_object c one start l w r ≡ after (object_start w start l c r) context_of
  unfolding add_object after
  object_by start w r =
      sym (after_after (word c.size Record r) (λ k. any_word c.size Record >>= λ t. word c.size Record >>= λ a. room c start (bare l.name) >> return (fields_of w k t a)) context_of
      ∙ after_same (word c.size Record r) _ _ (λ k r. after_after (any_word c.size Record r) (λ t. word c.size Record >>= λ a. room c start (bare l.name) >> return (fields_of w k t a)) context_of
      ∙ after_same (any_word c.size Record r) _ _ (λ t r. after_after (word c.size Record r) (λ a. room c start (bare l.name) >> return (fields_of w k t a)) context_of
      ∙ after_same (word c.size Record r) _ _ (λ a r. after_after (room c start (bare l.name) r) (λ _. return (fields_of w k t a)) context_of))))

  abbrev contexts : Fields → Bool → List ℕ → Start
  contexts f self is = record { holder = OfObject f.owner self f.class f.on_set f.arity; names = named_by c.table is }

  abbrev pub held_in : Start → Reads (Unit {0})
  held_in s = hold c.uses one l s.holder s.names

  abbrev indexes : ℕ → Reads (List ℕ)
  indexes n = run c.size Record 4 (length c.table) BadIndex n

  -- what stands behind a context's header
  abbrev behind : Fields → Bool → Reads (Unit {0})
  behind f self = word c.size Record >>= λ n. indexes n >>= λ is. held_in (contexts f self is)

  behind_by : (f : Fields) (self : Bool) (r : State) → after ((word c.size Record >>= λ n. indexes n >>= λ is. return (contexts f self is)) r) held_in ≡ behind f self r
  unfolding after
  behind_by f self r =
      after_after (word c.size Record r) (λ n. indexes n >>= λ is. return (contexts f self is)) held_in
      ∙ after_same (word c.size Record r) _ _ (λ n r. after_after (indexes n r) (λ is. return (contexts f self is)) held_in)

  abbrev marked : ℕ → Bool
  marked h = eqb h 402653198

  abbrev of_type : ℕ → ℕ → Reads (Unit {0})
  of_type place h = refuse_when (not (eqb (h % 256) 14)) BadType Record place

  abbrev of_bits : ℕ → ℕ → Reads (Unit {0})
  of_bits place h = refuse_when (not (eqb h 134217742 || eqb h 402653198)) BadBits Record place

  pub context_by : (f : Fields) (r : State) → context_of f r ≡ after (context_start f c r) held_in
  unfolding add_context after
  context_by f r =
      sym (after_after (context c.size r) (λ self. word c.size Record >>= λ n. indexes n >>= λ is. return (contexts f self is)) held_in
      ∙ after_same (context c.size r) _ _ (behind_by f)
      ∙ after_after (here c.size r) (λ place. any_word c.size Record >>= λ h. of_type place h >> (of_bits place h >> return (marked h))) (behind f)
      ∙ after_same (here c.size r) _ _ (λ place r. after_after (any_word c.size Record r) (λ h. of_type place h >> (of_bits place h >> return (marked h))) (behind f)
      ∙ after_same (any_word c.size Record r) _ _ (λ h r. after_after (of_type place h r) (λ _. of_bits place h >> return (marked h)) (behind f)
      ∙ after_same (of_type place h r) _ _ (λ _ r. after_after (of_bits place h r) (λ _. return (marked h)) (behind f)))))

-- a value, by the levels that are permitted
abbrev pub labelled : Heading → Name → Tag
labelled h n = record { new_line = h.new_line; name = n }

pub value_in : (c : Setting) (d : ℕ) (n : Name) (r : State) → 0 < d → value c d n r ≡ after (heading c r) (λ h. content c (value c (d - 1)) h.place (labelled h n) h.form)
unfolding value
value_in c zero n r lt = absurd (omega arith)
value_in c (suc d) n r lt =
    let e : suc d - 1 ≡ d = omega arith in
    rw e

pub value_deep : (c : Setting) (d : ℕ) (n : Name) (r : State) → d ≡ 0 → value c d n r ≡ after (heading c r) (λ h. refuse TooDeep Record h.place)
unfolding value
value_deep c d n r e = rw e
