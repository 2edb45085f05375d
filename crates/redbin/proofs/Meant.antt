-- Reading into a memory answers what reading without a limit does, but where a value finds no room.
use Rattle.std.proofs.Common.{◌≡◌, ℕ, zero, suc, Bool, true, false, cond, ◌⊎◌, List, [], ◌∷◌, length, replicate, Ok, Err, sym, refl, ap, ◌∙◌, inl, inr, ⊎_elim}
use Rattle.steps.specs.declared.parts.ListKind.{ListKind}
use Rattle.steps.specs.declared.parts.TextKind.{TextKind}
use Rattle.steps.specs.declared.parts.Holder.{Holder}
use Rattle.steps.specs.declared.parts.Holder.TheVariants.{List as OfList}
use Rattle.steps.specs.declared.parts.Share.{Share}
use Rattle.steps.specs.Steps.{Name, Tag, Content, none, logic, char, integer, float, text, put, close}
use Rattle.steps.specs.Outline.{share_family}
use Rattle.steps.specs.Law.{Memory, need, has_room, deepest}
use Rattle.refusal.specs.declared.Reason.TheVariants.{NoMemory}
use Rattle.refusal.specs.declared.Part.TheVariants.{Record}
use Rattle.redbin.specs.declared.form.Form.{Form}
use Rattle.redbin.specs.Layout.{width}
use Rattle.redbin.specs.declared.form.Form.TheVariants.{Nothing as is_none, Logic as is_logic, Char as is_char, Integer as is_integer, Float as is_float, Text as is_text, List as is_list, Object as is_object, ShareText as shares_text, ShareList as shares_list, ShareObject as shares_object}
use Rattle.redbin.specs.Reading.{answer, load, because, steps_or_none, Reader, Read, Reads, got, refused, after, in_memory, unlimited, push, Setting, each, hold, bare, heading_of, behind_padding, heading, room, add, target, add_share, add_text, on_boundary, add_float, add_list, add_context, add_object, content, value, records, whole_file, read, signed, is_nonzero}
use Rattle.redbin.specs.Promises.{MemoryDecidesRoomAlone, LoadGivesFileSteps}
use Rattle.redbin.proofs.Fields.{stop, then}

-- the reading found no room for a value
abbrev NoRoom : {A : Type 0} → Read A → Type 0
NoRoom x = (place : ℕ) × (x ≡ refused (because NoMemory Record place))

-- two readings have the same outcome, or the first found no room
record Onward {A : Type 0} (p q : Reads A) : Type 0 where
  onward : (r : Reader) → (p r ≡ q r) ⊎ NoRoom (p r)

seq : {A B : Type 0} {m n : Reads A} {k l : A → Reads B} → Onward m n → ((a : A) → Onward (k a) (l a)) → Onward (λ r. after (m r) k) (λ r. after (n r) l)
seq {A} {B} {m} {n} {k} {l} h g = record { onward = λ r. go r (h.onward r) }
  where
    alike : (r : Reader) (x : Read A) → m r ≡ x → n r ≡ x → (after (m r) k ≡ after (n r) l) ⊎ NoRoom (after (m r) k)
    alike r (got a s) p q = ⊎_elim (λ e. inl (then k p (e ∙ sym (then l q refl)))) (λ z. inr (z.0, then k p z.1)) ((g a).onward s)
    alike r (refused x) p q = inl (stop k p ∙ sym (stop l q))

    go : (r : Reader) → (m r ≡ n r) ⊎ NoRoom (m r) → (after (m r) k ≡ after (n r) l) ⊎ NoRoom (after (m r) k)
    go r (inl e) = alike r (m r) refl (sym e)
    go r (inr z) = inr (z.0, stop k z.1)

same : {A : Type 0} {m : Reads A} → Onward m m
same = record { onward = λ r. inl refl }

each_onward : (one two : Name → Reads (Unit {0})) → ((n : Name) → Onward (one n) (two n)) → (ns : List Name) → Onward (each one ns) (each two ns)
unfolding each
each_onward one two h [] = same
each_onward one two h (n ∷ ns) = seq (h n) (λ u. each_onward one two h ns)

module _ (m : Memory) (size : ℕ) (table : List Name) (payload : ℕ) where
  abbrev c : Setting
  c = record { size = size; uses = in_memory m; table = table; payload = payload }

  abbrev d : Setting
  d = record { size = size; uses = unlimited; table = table; payload = payload }

  push_onward : (s : _) → Onward (push (in_memory m) s) (push unlimited s)
  unfolding push
  push_onward s = same

  room_onward : (place : ℕ) (n : Memory) → Onward (room c place n) (room d place n)
  unfolding room
  room_onward place n = record { onward = λ r. go r (has_room m r.steps n) }
    where
      found : Reader → Bool → Read (Unit {0})
      found r b = cond b (got tt r) (refused (because NoMemory Record place))

      go : (r : Reader) (b : Bool) → (found r b ≡ got tt r) ⊎ NoRoom (found r b)
      go r true = inl refl
      go r false = inr (place, refl)

  add_onward : (place : ℕ) (l : Tag) (v : Content) → Onward (add c place l v) (add d place l v)
  add_onward place l v = seq (room_onward place (need l.name (put v))) (λ u. push_onward _)

  heading_onward : Onward (heading c) (heading d)
  unfolding heading behind_padding heading_of
  heading_onward = same

  target_onward : (place : ℕ) (f : _) (p : List ℕ) → Onward (target c place f p) (target d place f p)
  unfolding target
  target_onward place f p = same

  share_onward : (start : ℕ) (l : Tag) (s : Share) → Onward (add_share c start l s) (add_share d start l s)
  unfolding add_share
  share_onward start l s =
      seq same (λ place. seq same (λ h. seq same (λ u. seq same (λ u. seq same (λ n. seq same
      (λ p. seq (target_onward place (share_family s) p) (λ t. seq (room_onward start (bare l.name)) (λ u. push_onward _))))))))

  text_onward : (start : ℕ) (l : Tag) (k : TextKind) (unit : ℕ) → Onward (add_text c start l k unit) (add_text d start l k unit)
  unfolding add_text
  text_onward start l k unit = seq same (λ head. seq same (λ n. seq same (λ ps. seq same (λ zs. add_onward start l (text k head ps)))))

  float_onward : (start : ℕ) (l : Tag) → Onward (add_float c start l) (add_float d start l)
  unfolding add_float on_boundary
  float_onward start l = seq same (λ u. seq same (λ n. add_onward start l (float n)))

  module _ (one two : Name → Reads (Unit {0})) (inside : (n : Name) → Onward (one n) (two n)) where
    hold_onward : (l : Tag) (h : Holder) (ns : List Name) → Onward (hold (in_memory m) one l h ns) (hold unlimited two l h ns)
    unfolding hold
    hold_onward l h ns = seq (push_onward _) (λ u. seq (each_onward one two inside ns) (λ u. push_onward close))

    list_onward : (start : ℕ) (l : Tag) (k : ListKind) → Onward (add_list c one start l k) (add_list d two start l k)
    unfolding add_list
    list_onward start l k = seq same (λ head. seq same (λ n. seq (room_onward start (bare l.name)) (λ u. hold_onward l (OfList k head) (replicate n []))))

    context_onward : (l : Tag) (w : Bool) (x y z : ℕ) → Onward (add_context c one l w x y z) (add_context d two l w x y z)
    unfolding add_context
    context_onward l w x y z = seq same (λ place. seq same (λ h. seq same (λ u. seq same (λ u. seq same (λ n. seq same (λ is. hold_onward l _ _))))))

    object_onward : (start : ℕ) (l : Tag) (w : Bool) → Onward (add_object c one start l w) (add_object d two start l w)
    unfolding add_object
    object_onward start l w = seq same (λ x. seq same (λ y. seq same (λ z. seq (room_onward start (bare l.name)) (λ u. context_onward l w x y z))))

    content_onward : (start : ℕ) (l : Tag) (f : Form) → Onward (content c one start l f) (content d two start l f)
    unfolding content
    content_onward start l is_none = add_onward start l none
    content_onward start l is_logic = seq same (λ n. add_onward start l (logic (is_nonzero n)))
    content_onward start l is_char = seq same (λ n. add_onward start l (char n))
    content_onward start l is_integer = seq same (λ n. add_onward start l (integer (signed n)))
    content_onward start l is_float = float_onward start l
    content_onward start l (is_text k u) = text_onward start l k (width u)
    content_onward start l (is_list k) = list_onward start l k
    content_onward start l (is_object w) = object_onward start l w
    content_onward start l (shares_text k) = seq same (λ n. share_onward start l _)
    content_onward start l (shares_list k) = seq same (λ n. share_onward start l _)
    content_onward start l (shares_object w) = share_onward start l _

  value_onward : (n : ℕ) (name : Name) → Onward (value c n name) (value d n name)
  unfolding value
  value_onward zero name = seq heading_onward (λ h. same)
  value_onward (suc n) name = seq heading_onward (λ h. content_onward (value c n) (value d n) (value_onward n) h.place _ h.form)

  records_onward : (count : ℕ) → Onward (records c count) (records d count)
  unfolding records
  records_onward count =
      seq same (λ n. seq same (λ u. seq same (λ u. seq (each_onward (value c deepest) (value d deepest) (value_onward deepest) (replicate count [])) (λ u. seq same (λ k. same)))))

file_onward : (m : Memory) (bytes : List ℕ) → Onward (whole_file (in_memory m) bytes) (whole_file unlimited bytes)
unfolding whole_file
file_onward m bytes = seq same (λ u. seq same (λ count. seq same (λ payload. seq same (λ table. records_onward m (length bytes) table payload count))))

pub decides_room_alone : MemoryDecidesRoomAlone
unfolding read
decides_room_alone m bytes = ⊎_elim (λ e. inl (ap answer e)) (λ z. inr (z.0, ap answer z.1)) ((file_onward m bytes).onward (record { rest = bytes; steps = [] }))

pub gives_file_steps : LoadGivesFileSteps
gives_file_steps m (s ∷ before) bytes e h = absurd cc
gives_file_steps m [] bytes e h = ⊎_elim (λ p. (refl, ap steps_or_none (sym h ∙ p))) (λ z. absurd (refused_not z.0 z.1)) (decides_room_alone m bytes)
  where
    refused_not : (place : ℕ) → load m [] bytes ≡ Err (because NoMemory Record place) → ⊥
    refused_not place q =
        let p : Ok e ≡ Err (because NoMemory Record place) = sym h ∙ q in
        absurd cc
