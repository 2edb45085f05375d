-- What load accepts is lawful and closed.
use Rattle.std.proofs.Common.{◌≡◌, ℕ, zero, suc, ◌+◌, ◌-◌, ◌<◌, Bool, true, false, cond, eqb, ltb, List, [], ◌∷◌, length, replicate, pos, negsuc, None, sym, refl, ap, ◌∙◌, arith}
use mathlib.Core.List.{tail}
use Rattle.std.proofs.lemmas.Bool.{ltb-false, lt-ltb, and_from}
use Rattle.steps.specs.Law.{deepest, integer_end, field_end, word_end, codepoint_end, codepoints_ok, need, Memory, Lawful, refusal, name_ok, begun_ok, content_ok, holder_ok, share_ok, has_room}
use Rattle.steps.specs.Outline.{Opened, values, opened, in_object, suits, share_family}
use Rattle.steps.specs.Steps.{Steps, Name, Tag, Content, Begun, none, logic, char, integer, float, text, begin, close, put, open', share}
use Rattle.steps.specs.declared.parts.Holder.TheVariants.{Object as OfObject, List as OfList}
use Rattle.steps.specs.declared.parts.Holder.{Holder}
use Rattle.steps.specs.declared.parts.ListKind.{ListKind}
use Rattle.steps.specs.declared.parts.Node.{Node}
use Rattle.steps.specs.declared.parts.Share.TheVariants.{Text as ShareText, Object as ShareObject, List as ShareList}
use Rattle.steps.specs.declared.parts.Share.{Share}
use Rattle.steps.specs.declared.parts.TextKind.{TextKind}
use Rattle.steps.specs.declared.parts.Family.{Family}
use Rattle.refusal.specs.declared.Part.{Part}
use Rattle.refusal.specs.declared.Reason.{Reason}
use Rattle.std.specs.List.{AllByRecursion as Each}
use Rattle.redbin.proofs.Lists.{tests_from_all, all_replicate, all_at}
use Rattle.redbin.proofs.Drafted.{InDraft, in_draft}
use Rattle.redbin.proofs.Fields.{Below}
use Rattle.redbin.proofs.Got.{came, Still, still_here, still_refuse, still_below, still_run, still_heading, below_got, run_got, room_got, push_got, target_got, boundary_got}
use Rattle.redbin.proofs.Table.{AllLawful}
use Rattle.redbin.specs.Layout.{width, context_header}
use Rattle.redbin.specs.Reading.{bare, in_memory, Reader, Reads, got, after, push, below, run, room, target, add, each, named_by, signed, is_nonzero, add_share, add_text, add_float, hold, add_list, add_context, add_object, content, value}
use Rattle.redbin.specs.declared.form.Form.TheVariants.{Char as is_char, ShareText as shares_text, ShareObject as shares_object, List as is_list, Logic as is_logic, Object as is_object, Nothing as is_none, Integer as is_integer, Text as is_text, Float as is_float, ShareList as shares_list}
use Rattle.redbin.specs.declared.form.Form.{Form}

-- lawful steps with the same values open as before
abbrev pub Kept : Memory → Steps → Steps → Type 0
Kept m e f = Lawful m f × (opened f ≡ opened e)

-- a value with this label may be begun
pub record Ready (m : Memory) (e : Steps) (l : Tag) : Type 0 where
  pub lawful : Lawful m e
  pub name : name_ok (opened e) l.name ≡ true
  pub depth : length (opened e) < deepest

lawful_begin : (m : Memory) (e : Steps) (l : Tag) (b : Begun) → Ready m e l → begun_ok (values e) b ≡ true → has_room m e (need l.name b) ≡ true → Lawful m (begin l b ∷ e)
lawful_begin m e l b y v r =
    let n = y.name in
    let d : ltb (length (opened e)) deepest ≡ true = lt-ltb _ _ y.depth in
    (y.lawful, rw (n, v, d, r))

pub codepoints_from : (ps : List ℕ) → Below codepoint_end ps → codepoints_ok ps ≡ true
codepoints_from ps h = tests_from_all _ _ (λ n l. lt-ltb n codepoint_end l) ps h

signed_ok : (n : ℕ) → n < word_end → content_ok (integer (signed n)) ≡ true
signed_ok n h = go (ltb n integer_end) refl
  where
    go : (b : Bool) → ltb n integer_end ≡ b → content_ok (integer (cond b (pos n) (negsuc ((word_end - 1) - n)))) ≡ true
    go true e = e
    go false e = lt-ltb _ _ (omega (arith, ltb-false n integer_end e))

abbrev pub AllOk : List Opened → List Name → Type 0
AllOk os ns = Each (λ n. name_ok os n ≡ true) ns

-- a reader of one value that keeps the steps lawful
abbrev pub Keeps : Memory → ℕ → (Name → Reads (Unit {0})) → Type 0
Keeps m d one =
    (n : Name) (r : Reader) (u : Unit {0}) (s : Reader) → one n r ≡ got u s → Lawful m r.steps → d + length (opened r.steps) ≡ deepest → name_ok (opened r.steps) n ≡ true
    → Kept m r.steps s.steps

pub each_kept : (m : Memory) (d : ℕ) (one : Name → Reads (Unit {0})) → Keeps m d one → (ns : List Name) (r : Reader) (u : Unit {0}) (s : Reader) → each one ns r ≡ got u s
    → Lawful m r.steps → d + length (opened r.steps) ≡ deepest → AllOk (opened r.steps) ns → Kept m r.steps s.steps
unfolding each
each_kept m d one k [] r u s h t q o =
    let p : s ≡ r = cc in
    rw p (t, refl)
each_kept m d one k (n ∷ ns) r u s h t q o =
    let a = came _ _ u s h in
    let p = k n r a.value a.at a.was t q o.0 in
    let q' : d + length (opened a.at.steps) ≡ deepest = rw p.1 q in
    let o' : AllOk (opened a.at.steps) ns = rw p.1 o.1 in
    let z = each_kept m d one k ns a.at u s a.next p.0 q' o' in
    (z.0, z.1 ∙ p.1)

pub empty_ok : (os : List Opened) (n : ℕ) → in_object os ≡ false → AllOk os (replicate n [])
empty_ok os n h = all_replicate _ n [] (rw h)

named_ok : (os : List Opened) (table : List Name) (is : List ℕ) → in_object os ≡ true → AllLawful table → Below (length table) is → AllOk os (named_by table is)
unfolding named_by
named_ok os table [] h t b = tt
named_ok os table (i ∷ is) h t b = (rw h (all_at _ table i [] b.0 t), named_ok os table is h t b.1)

-- a reading, begun where these steps stand, that keeps them lawful
record Keeping (m : Memory) (e : Steps) {A : Type 0} (p : Reads A) : Type 0 where
  keeping : (r : Reader) (a : A) (s : Reader) → r.steps ≡ e → p r ≡ got a s → Kept m e s.steps

module _ (c : InDraft) (e : Steps) where
  abbrev Keep : {A : Type 0} → Reads A → Type 0
  Keep p = Keeping c.memory e p

  after_still : {A B : Type 0} {p : Reads A} {k : A → Reads B} → Still p → ((a : A) → Keep (k a)) → Keep (λ r. after (p r) k)
  after_still {k = k} h g = record {
    keeping = λ r b s q x.
        let a = came _ k b s x in
        (g a.value).keeping a.at b s (h.still r a.value a.at a.was ∙ q) a.next;
  }

  after_below : {B : Type 0} {k : ℕ → Reads B} (size : ℕ) (part : Part) (unit limit : ℕ) (why : Reason) → ((n : ℕ) → n < limit → Keep (k n))
      → Keep (λ r. after (below size part unit limit why r) k)
  after_below {k = k} size part unit limit why g = record {
    keeping = λ r b s q x.
        let a = came _ k b s x in
        let p = below_got size part unit limit why r a.value a.at a.was in
        (g a.value p.0).keeping a.at b s (p.1 ∙ q) a.next;
  }

  after_run : {B : Type 0} {k : List ℕ → Reads B} (size : ℕ) (part : Part) (unit limit : ℕ) (why : Reason) (n : ℕ) → ((ns : List ℕ) → Below limit ns → Keep (k ns))
      → Keep (λ r. after (run size part unit limit why n r) k)
  after_run {k = k} size part unit limit why n g = record {
    keeping = λ r b s q x.
        let a = came _ k b s x in
        let p = run_got size part unit limit why n r a.value a.at a.was in
        (g a.value p.0).keeping a.at b s (p.2 ∙ q) a.next;
  }

  after_room : {B : Type 0} {k : Unit {0} → Reads B} (place : ℕ) (n : Memory) → ((u : Unit {0}) → has_room c.memory e n ≡ true → Keep (k u))
      → Keep (λ r. after (room (in_draft c) place n r) k)
  after_room {k = k} place n g = record {
    keeping = λ r b s q x.
        let a = came _ k b s x in
        let p = room_got c place n r a.value a.at a.was in
        let free : has_room c.memory e n ≡ true = rw q at p.0 in
        (g a.value free).keeping a.at b s (p.1 ∙ q) a.next;
  }

  after_target : {B : Type 0} {k : Node → Reads B} (place : ℕ) (f : Family) (path : List ℕ) → ((t : Node) → suits (values e) t f ≡ true → Keep (k t))
      → Keep (λ r. after (target (in_draft c) place f path r) k)
  after_target {k = k} place f path g = record {
    keeping = λ r b s q x.
        let a = came _ k b s x in
        let p = target_got c place f path r a.value a.at a.was in
        let suit : suits (values e) a.value f ≡ true = ap (λ z. suits (values z) a.value f) (sym q) ∙ p.0 in
        (g a.value suit).keeping a.at b s (p.1 ∙ q) a.next;
  }

  -- a value that holds no others is begun
  begun_keeps : (l : Tag) (b : Begun) → Lawful c.memory (begin l b ∷ e) → opened (begin l b ∷ e) ≡ opened e → Keep (push (in_memory c.memory) (begin l b))
  begun_keeps l b t o = record {
    keeping = λ r u s q x.
        let f : s.steps ≡ begin l b ∷ e = push_got c.memory (begin l b) r u s x ∙ ap {B = Steps} (λ z. begin l b ∷ z) q in
        rw f (t, o);
  }

  add_keeps : (place : ℕ) (l : Tag) (v : Content) → Ready c.memory e l → content_ok v ≡ true → Keep (add (in_draft c) place l v)
  add_keeps place l v y ok = after_room place (need l.name (put v)) (λ u free. begun_keeps l (put v) (lawful_begin c.memory e l (put v) y ok free) refl)

  text_keeps : (start : ℕ) (l : Tag) (k : TextKind) (unit : ℕ) → Ready c.memory e l → Keep (add_text (in_draft c) start l k unit)
  unfolding add_text
  text_keeps start l k unit y =
      after_below _ _ _ _ _ (λ head low. after_still (still_below _ _ _ _ _) (λ n. after_run _ _ _ _ _ _ (λ ps fit. after_still (still_run _ _ _ _ _ _)
      (λ zs. add_keeps start l (text k head ps) y (and_from (ltb head field_end) (codepoints_ok ps) (lt-ltb _ _ low) (codepoints_from ps fit))))))

  float_keeps : (start : ℕ) (l : Tag) → Ready c.memory e l → Keep (add_float (in_draft c) start l)
  unfolding add_float
  float_keeps start l y =
      after_still (record { still = boundary_got c }) (λ u. after_below _ _ _ _ _ (λ n low. add_keeps start l (float n) y (lt-ltb _ _ low)))

  share_keeps : (start : ℕ) (l : Tag) (h : Share) → Ready c.memory e l → share_ok h ≡ true → Keep (add_share (in_draft c) start l h)
  unfolding add_share
  share_keeps start l h y ok =
      after_still (still_here _) (λ place. after_still (still_below _ _ _ _ _) (λ first. after_still (still_refuse _ _ _ _) (λ u. after_still (still_refuse _ _ _ _)
      (λ u. after_still (still_below _ _ _ _ _) (λ n. after_still (still_run _ _ _ _ _ _) (λ path. after_target place (share_family h) path
      (λ t suit. after_room start (bare l.name)
      (λ u free. begun_keeps l (share h t) (lawful_begin c.memory e l (share h t) y (and_from (share_ok h) (suits (values e) t (share_family h)) ok suit) free) refl))))))))

  module _ (d : ℕ) (one : Name → Reads (Unit {0})) (l : Tag) (keeps : Keeps c.memory d one) (y : Ready c.memory e l) (deep : suc d + length (opened e) ≡ deepest) where
    -- an opened value with whole values in it, and its close
    hold_keeps : (h : Holder) (ns : List Name) → holder_ok h ≡ true → has_room c.memory e (bare l.name) ≡ true → AllOk (opened (begin l (open' h) ∷ e)) ns
        → Keep (hold (in_memory c.memory) one l h ns)
    unfolding hold
    hold_keeps h ns ok free names = record {
      keeping = λ r u s same p.
          let m = c.memory in
          let a = came _ _ u s p in
          let b = came _ _ u s a.next in
          let x : a.at.steps ≡ begin l (open' h) ∷ e = push_got m (begin l (open' h)) r a.value a.at a.was ∙ ap {B = Steps} (λ z. begin l (open' h) ∷ z) same in
          let f : s.steps ≡ close ∷ b.at.steps = push_got m close b.at u s b.next in
          let t : Lawful m a.at.steps = rw x (lawful_begin m e l (open' h) y ok free) in
          let k = each_kept m d one keeps ns a.at b.value b.at b.was t (rw x (omega arith)) (rw x names) in
          let o : opened b.at.steps ≡ opened (begin l (open' h) ∷ e) = k.1 ∙ ap opened x in
          let w : ltb 0 (length (opened b.at.steps)) ≡ true = lt-ltb _ _ (omega (arith, ap length o)) in
          let v : refusal m b.at.steps close ≡ None = rw w in
          rw f ((k.0, v), ap tail o);
    }

    list_keeps : (start : ℕ) (k : ListKind) → Keep (add_list (in_draft c) one start l k)
    unfolding add_list
    list_keeps start k =
        after_below _ _ _ _ _ (λ head low. after_still (still_below _ _ _ _ _) (λ n. after_room start (bare l.name)
        (λ u free. hold_keeps (OfList k head) (replicate n []) (lt-ltb _ _ low) free (empty_ok (opened (begin l (open' (OfList k head)) ∷ e)) n refl))))

    module _ (table : AllLawful c.table) where
      context_keeps : (w : Bool) (k t a : ℕ) → ((b : Bool) → holder_ok (OfObject w b k t a) ≡ true) → has_room c.memory e (bare l.name) ≡ true → Keep (add_context (in_draft c) one l w k t a)
      unfolding add_context
      context_keeps w k t a ok free =
          after_still (still_here _) (λ place. after_still (still_below _ _ _ _ _) (λ h. after_still (still_refuse _ _ _ _) (λ u. after_still (still_refuse _ _ _ _)
          (λ u. after_still (still_below _ _ _ _ _) (λ n. after_run _ _ _ _ _ _
          (λ is low. let b = eqb h (context_header true) in hold_keeps (OfObject w b k t a) (named_by c.table is) (ok b) free (named_ok (opened (begin l (open' (OfObject w b k t a)) ∷ e)) c.table is refl table low)))))))

      object_keeps : (start : ℕ) (w : Bool) → Keep (add_object (in_draft c) one start l w)
      unfolding add_object
      object_keeps start w =
          after_below _ _ _ _ _ (λ k p. after_below _ _ _ _ _ (λ t q. after_below _ _ _ _ _ (λ a r. after_room start (bare l.name)
          (λ u free. context_keeps w k t a (λ b. and_from _ _ (lt-ltb _ _ p) (and_from _ _ (lt-ltb _ _ q) (lt-ltb _ _ r))) free))))

      content_keeps : (start : ℕ) (x : Form) → Keep (content (in_draft c) one start l x)
      unfolding content
      content_keeps start is_none = add_keeps start l none y refl
      content_keeps start is_logic = after_still (still_below _ _ _ _ _) (λ n. add_keeps start l (logic (is_nonzero n)) y refl)
      content_keeps start is_char = after_below _ _ _ _ _ (λ n low. add_keeps start l (char n) y (lt-ltb _ _ low))
      content_keeps start is_integer = after_below _ _ _ _ _ (λ n low. add_keeps start l (integer (signed n)) y (signed_ok n low))
      content_keeps start is_float = float_keeps start l y
      content_keeps start (is_text k u) = text_keeps start l k (width u) y
      content_keeps start (is_list k) = list_keeps start k
      content_keeps start (is_object w) = object_keeps start w
      content_keeps start (shares_text k) = after_below _ _ _ _ _ (λ n low. share_keeps start l (ShareText k n) y (lt-ltb _ _ low))
      content_keeps start (shares_list k) = after_below _ _ _ _ _ (λ n low. share_keeps start l (ShareList k n) y (lt-ltb _ _ low))
      content_keeps start (shares_object w) = share_keeps start l (ShareObject w) y refl

pub value_kept : (c : InDraft) → AllLawful c.table → (d : ℕ) → Keeps c.memory d (value (in_draft c) d)
unfolding value
value_kept c table zero n r u s h t q o =
    let a = came _ _ u s h in
    let e = a.next in
    absurd cc
value_kept c table (suc d) n r u s h t q o =
    let a = came _ _ u s h in
    let l : Tag = record { new_line = a.value.new_line; name = n } in
    let y : Ready c.memory r.steps l = record { lawful = t; name = o; depth = omega arith } in
    (content_keeps c r.steps d (value (in_draft c) d) l (value_kept c table d) y q table a.value.place a.value.form).keeping a.at u s ((still_heading c).still r a.value a.at a.was) a.next
