-- Where reading without a limit accepts a file, a memory with room for its steps accepts it too.
use Rattle.std.proofs.Common.{◌≡◌, ℕ, zero, suc, Bool, true, eqb, List, [], ◌∷◌, length, get_or, replicate, Ok, Err, sym, refl, ap, ◌∙◌}
use Rattle.steps.specs.declared.parts.ListKind.{ListKind}
use Rattle.steps.specs.declared.parts.TextKind.{TextKind}
use Rattle.steps.specs.declared.parts.Family.{Family}
use Rattle.steps.specs.declared.parts.Holder.{Holder}
use Rattle.steps.specs.declared.parts.Holder.TheVariants.{List as OfList}
use Rattle.steps.specs.declared.parts.Share.{Share}
use Rattle.steps.specs.Steps.{Name, Tag, Content, none, logic, char, integer, float, text, Begun, Step, begin, put, open', share, close}
use Rattle.steps.specs.Outline.{share_family}
use Rattle.steps.specs.Law.{Memory, need, has_room, deepest}
use Rattle.redbin.specs.declared.form.Form.{Form}
use Rattle.redbin.specs.declared.form.Form.TheVariants.{Nothing as is_none, Logic as is_logic, Char as is_char, Integer as is_integer, Float as is_float, Text as is_text, List as is_list, Object as is_object, ShareText as shares_text, ShareList as shares_list, ShareObject as shares_object}
use Rattle.redbin.specs.Layout.{width, flags_place, table_flag}
use Rattle.redbin.specs.Reading.{Reader, Read, Reads, got, refused, after, in_memory, unlimited, push, Setting, each, hold, bare, heading_of, behind_padding, heading, room, add, target, add_share, add_text, on_boundary, add_float, add_list, add_context, add_object, content, value, records, whole_file, answer, read, load, signed, is_nonzero}
use Rattle.redbin.specs.Promises.{Fits, LoadAcceptsWhatFits}
use Rattle.redbin.proofs.Drafted.{InDraft}
use Rattle.redbin.proofs.Fields.{then}
use Rattle.redbin.proofs.Got.{came, same_steps, Still, still_here, still_left, still_refuse, still_below, still_run, still_heading, target_got, boundary_got}
use Rattle.redbin.proofs.Puts.{room_from}
use Rattle.redbin.proofs.Loaded.{table_got, still_start}
use Rattle.redbin.proofs.Elsewhere.{fits_tail}

module _ (m : Memory) where
  -- what the second accepts and fits the memory, the first accepts with the same outcome
  record Back {A : Type 0} (p q : Reads A) : Type 0 where
    back : (r : Reader) (a : A) (s : Reader) → q r ≡ got a s → Fits m s.steps → (p r ≡ got a s) × Fits m r.steps

  -- what it accepts and fits the memory had this much room
  record Roomy {A : Type 0} (n : Memory) (q : Reads A) : Type 0 where
    roomy : (r : Reader) (a : A) (s : Reader) → q r ≡ got a s → Fits m s.steps → has_room m r.steps n ≡ true

  seq : {A B : Type 0} {p q : Reads A} {k l : A → Reads B} → Back p q → ((a : A) → Back (k a) (l a)) → Back (λ r. after (p r) k) (λ r. after (q r) l)
  seq {p = p} {q = q} {k = k} {l = l} h g = record {
    back = λ r b s e f.
        let c = came (q r) l b s e in
        let y = (g c.value).back c.at b s c.next f in
        let x = h.back r c.value c.at c.was y.1 in
        (then k x.0 y.0, x.1);
  }

  -- a reading that leaves the steps as they are
  kept : {A : Type 0} {p : Reads A} → Still p → Back p p
  kept h = record { back = λ r a s e f. (e, rw (sym (h.still r a s e)) f) }

  -- such a reading before them
  pass : {A B : Type 0} {p : Reads A} {k l : A → Reads B} → Still p → ((a : A) → Back (k a) (l a)) → Back (λ r. after (p r) k) (λ r. after (p r) l)
  pass h g = seq (kept h) g

  -- a check of room before a reading that needs the room
  roomed : {B : Type 0} (size : ℕ) (table : List Name) (payload place : ℕ) (n : Memory) {k l : Unit {0} → Reads B} → ((u : Unit {0}) → Back (k u) (l u)) → ((u : Unit {0}) → Roomy n (l u))
      → Back (λ r. after (room (record { size = size; uses = in_memory m; table = table; payload = payload }) place n r) k)
      (λ r. after (room (record { size = size; uses = unlimited; table = table; payload = payload }) place n r) l)
  unfolding room after
  roomed size table payload place n {k} {l} h g = record {
    back = λ r b s e f.
        let x = (h tt).back r b s e f in
        let y = (g tt).roomy r b s e f in
        (rw y x.0, x.1);
  }

  roomy_later : {A B : Type 0} (n : Memory) {p : Reads A} {k : A → Reads B} → Still p → ((a : A) → Roomy n (k a)) → Roomy n (λ r. after (p r) k)
  roomy_later n {p} {k} h g = record {
    roomy = λ r b s e f.
        let c = came (p r) k b s e in
        let y = (g c.value).roomy c.at b s c.next f in
        rw (h.still r c.value c.at c.was) at y;
  }

  push_back : (x : Step) → Back (push (in_memory m) x) (push unlimited x)
  unfolding push
  push_back x = record { back = λ r u s e f. (e, fits_tail m x r.steps (rw (same_steps tt u _ s e) at f)) }

  -- what begins a value and fits had room for it
  push_roomy : (l : Tag) (b : Begun) → Roomy (need l.name b) (push unlimited (begin l b))
  unfolding push
  push_roomy l b = record {
    roomy = λ r u s e f.
        let q : s.steps ≡ begin l b ∷ r.steps = same_steps tt u _ s e in
        room_from m r.steps (need l.name b) (rw q at f);
  }

  each_back : (one two : Name → Reads (Unit {0})) → ((n : Name) → Back (one n) (two n)) → (ns : List Name) → Back (each one ns) (each two ns)
  unfolding each
  each_back one two h [] = kept (record { still = λ r a s e. same_steps tt a r s e })
  each_back one two h (n ∷ ns) = seq (h n) (λ u. each_back one two h ns)

module _ (m : Memory) (size : ℕ) (table : List Name) (payload : ℕ) where
  abbrev b : InDraft
  b = record { size = size; memory = m; table = table; payload = payload }

  abbrev c : Setting
  c = record { size = size; uses = in_memory m; table = table; payload = payload }

  abbrev d : Setting
  d = record { size = size; uses = unlimited; table = table; payload = payload }

  heading_back : Back m (heading c) (heading d)
  unfolding heading behind_padding heading_of
  heading_back = kept m (still_heading b)

  target_back : (place : ℕ) (f : Family) (p : List ℕ) → Back m (target c place f p) (target d place f p)
  unfolding target
  target_back place f p = kept m (record { still = λ r a s e. (target_got b place f p r a s e).1 })

  boundary_back : Back m (on_boundary c) (on_boundary d)
  unfolding on_boundary
  boundary_back = kept m (record { still = λ r a s e. boundary_got b r a s e })

  add_back : (place : ℕ) (l : Tag) (v : Content) → Back m (add c place l v) (add d place l v)
  add_back place l v = roomed m size table payload place (need l.name (put v)) (λ u. push_back m (begin l (put v))) (λ u. push_roomy m l (put v))

  share_back : (start : ℕ) (l : Tag) (s : Share) → Back m (add_share c start l s) (add_share d start l s)
  unfolding add_share
  share_back start l s =
      pass m (still_here size) (λ place. pass m (still_below _ _ _ _ _) (λ h. pass m (still_refuse _ _ _ _) (λ u. pass m (still_refuse _ _ _ _)
      (λ u. pass m (still_below _ _ _ _ _) (λ n. pass m (still_run _ _ _ _ _ _) (λ p. seq m (target_back place (share_family s) p)
      (λ t. roomed m size table payload start (bare l.name) (λ u. push_back m (begin l (share s t))) (λ u. push_roomy m l (share s t)))))))))

  text_back : (start : ℕ) (l : Tag) (k : TextKind) (unit : ℕ) → Back m (add_text c start l k unit) (add_text d start l k unit)
  unfolding add_text
  text_back start l k unit =
      pass m (still_below _ _ _ _ _) (λ head. pass m (still_below _ _ _ _ _) (λ n. pass m (still_run _ _ _ _ _ _) (λ ps. pass m (still_run _ _ _ _ _ _)
      (λ zs. add_back start l (text k head ps)))))

  float_back : (start : ℕ) (l : Tag) → Back m (add_float c start l) (add_float d start l)
  unfolding add_float
  float_back start l = seq m boundary_back (λ u. pass m (still_below _ _ _ _ _) (λ n. add_back start l (float n)))

  module _ (one two : Name → Reads (Unit {0})) (inside : (n : Name) → Back m (one n) (two n)) where
    hold_back : (l : Tag) (h : Holder) (ns : List Name) → Back m (hold (in_memory m) one l h ns) (hold unlimited two l h ns)
    unfolding hold
    hold_back l h ns = seq m (push_back m _) (λ u. seq m (each_back m one two inside ns) (λ u. push_back m close))

    -- a list or object that fits, with all that it holds, had room when it was begun
    hold_roomy : (l : Tag) (h : Holder) (ns : List Name) → Roomy m (bare l.name) (hold unlimited two l h ns)
    unfolding hold
    hold_roomy l h ns = record {
      roomy = λ r u s e f.
          let x = came _ _ u s e in
          let y = came _ _ u s x.next in
          let g = ((push_back m close).back y.at u s y.next f).1 in
          let w = ((each_back m one two inside ns).back x.at y.value y.at y.was g).1 in
          (push_roomy m l (open' h)).roomy r x.value x.at x.was w;
    }

    list_back : (start : ℕ) (l : Tag) (k : ListKind) → Back m (add_list c one start l k) (add_list d two start l k)
    unfolding add_list
    list_back start l k =
        pass m (still_below _ _ _ _ _) (λ head. pass m (still_below _ _ _ _ _)
        (λ n. roomed m size table payload start (bare l.name) (λ u. hold_back l (OfList k head) (replicate n [])) (λ u. hold_roomy l (OfList k head) (replicate n []))))

    context_back : (l : Tag) (w : Bool) (x y z : ℕ) → Back m (add_context c one l w x y z) (add_context d two l w x y z)
    unfolding add_context
    context_back l w x y z =
        pass m (still_here size) (λ place. pass m (still_below _ _ _ _ _) (λ h. pass m (still_refuse _ _ _ _) (λ u. pass m (still_refuse _ _ _ _)
        (λ u. pass m (still_below _ _ _ _ _) (λ n. pass m (still_run _ _ _ _ _ _) (λ is. hold_back l _ _))))))

    context_roomy : (l : Tag) (w : Bool) (x y z : ℕ) → Roomy m (bare l.name) (add_context d two l w x y z)
    unfolding add_context
    context_roomy l w x y z =
        roomy_later m _ (still_here size) (λ place. roomy_later m _ (still_below _ _ _ _ _) (λ h. roomy_later m _ (still_refuse _ _ _ _) (λ u. roomy_later m _ (still_refuse _ _ _ _)
        (λ u. roomy_later m _ (still_below _ _ _ _ _) (λ n. roomy_later m _ (still_run _ _ _ _ _ _) (λ is. hold_roomy l _ _))))))

    object_back : (start : ℕ) (l : Tag) (w : Bool) → Back m (add_object c one start l w) (add_object d two start l w)
    unfolding add_object
    object_back start l w =
        pass m (still_below _ _ _ _ _) (λ x. pass m (still_below _ _ _ _ _) (λ y. pass m (still_below _ _ _ _ _)
        (λ z. roomed m size table payload start (bare l.name) (λ u. context_back l w x y z) (λ u. context_roomy l w x y z))))

    content_back : (start : ℕ) (l : Tag) (f : Form) → Back m (content c one start l f) (content d two start l f)
    unfolding content
    content_back start l is_none = add_back start l none
    content_back start l is_logic = pass m (still_below _ _ _ _ _) (λ n. add_back start l (logic (is_nonzero n)))
    content_back start l is_char = pass m (still_below _ _ _ _ _) (λ n. add_back start l (char n))
    content_back start l is_integer = pass m (still_below _ _ _ _ _) (λ n. add_back start l (integer (signed n)))
    content_back start l is_float = float_back start l
    content_back start l (is_text k u) = text_back start l k (width u)
    content_back start l (is_list k) = list_back start l k
    content_back start l (is_object w) = object_back start l w
    content_back start l (shares_text k) = pass m (still_below _ _ _ _ _) (λ n. share_back start l _)
    content_back start l (shares_list k) = pass m (still_below _ _ _ _ _) (λ n. share_back start l _)
    content_back start l (shares_object w) = share_back start l _

  value_back : (n : ℕ) (name : Name) → Back m (value c n name) (value d n name)
  unfolding value
  value_back zero name = seq m heading_back (λ h. record { back = λ r a s e f. absurd cc })
  value_back (suc n) name = seq m heading_back (λ h. content_back (value c n) (value d n) (value_back n) h.place _ h.form)

  records_back : (count : ℕ) → Back m (records c count) (records d count)
  unfolding records
  records_back count =
      pass m still_left (λ n. pass m (still_refuse _ _ _ _) (λ u. pass m (still_refuse _ _ _ _)
      (λ u. seq m (each_back m (value c deepest) (value d deepest) (value_back deepest) (replicate count [])) (λ u. pass m still_left (λ k. kept m (still_refuse _ _ _ _))))))

file_back : (m : Memory) (bytes : List ℕ) → Back m (whole_file (in_memory m) bytes) (whole_file unlimited bytes)
unfolding whole_file
file_back m bytes =
    pass m (still_start bytes) (λ u. pass m (still_below _ _ _ _ _) (λ count. pass m (still_below _ _ _ _ _)
    (λ payload. pass m (record { still = λ r a s e. (table_got (eqb (get_or bytes flags_place 0) table_flag) (length bytes) r a s e).1 })
    (λ table. records_back m (length bytes) table payload count))))

pub accepts_what_fits : LoadAcceptsWhatFits
unfolding read
accepts_what_fits m bytes e h f = go (whole_file unlimited bytes (record { rest = bytes; steps = [] })) refl
  where
    go : (x : Read (Unit {0})) → whole_file unlimited bytes (record { rest = bytes; steps = [] }) ≡ x → load m [] bytes ≡ Ok e
    go (got u s) q =
        let p : Ok s.steps ≡ Ok e = rw q at h in
        let v : e ≡ s.steps = cc in
        let g : Fits m s.steps = rw v at f in
        ap answer ((file_back m bytes).back (record { rest = bytes; steps = [] }) u s q g).0 ∙ p
    go (refused x) q =
        let p : Err x ≡ Ok e = rw q at h in
        absurd cc
