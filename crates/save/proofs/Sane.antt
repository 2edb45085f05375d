-- What holds of the values of lawful steps.
use Rattle.std.proofs.Common.{◌≡◌, ℕ, suc, ◌+◌, ◌-◌, ◌<◌, ◌≤◌, Bool, true, false, cond, unwrap_or, ◌&&◌, eqb, ltb, leb, List, [], ◌∷◌, ◌++◌, length, Some, sym, refl, ap, ◌∙◌, subst, ⊎_elim, arith, length-append}
use Rattle.std.proofs.lemmas.Bool.{eq-eqb, ne_eqb, eqb-true, and_parts, cases_lt}
use Rattle.std.proofs.lemmas.List.{append-nil}
use Rattle.steps.specs.declared.parts.Node.{Node}
use Rattle.steps.specs.declared.parts.Node.TheVariants.{Root, At}
use Rattle.steps.specs.Steps.{Name, Begun, put, open', share, begin, close, Steps}
use Rattle.steps.specs.Utf8.{utf8, no_zero, lawful_name}
use Rattle.steps.specs.Outline.{Entry, Opened, values, opened, in_object, entry_at, holder_in, same_holder, inner, inner_names, share_family, way, path_of, path_to}
use Rattle.steps.specs.Law.{Memory, Lawful, name_ok, begun_ok, share_ok}
use Rattle.steps.proofs.Entered.{entry_first, entry_later}
use Rattle.document.specs.declared.store.Store.{Store}
use Rattle.document.specs.Standing.{standing, memory_lent}
use Rattle.redbin.proofs.Paths.{Sound, Held, outline_sound, suits_own, path_later}
use Rattle.redbin.proofs.Whole.{allowed}
use Rattle.save.specs.Values.{oldest, name_in, above, place_of, There, first_inner}
use Rattle.save.proofs.Oldest.{either, drop_one, drop_none, inner_none, length_oldest}

-- the target of a share was begun before it
abbrev pub Target : List Entry → Begun → Type 0
Target xs (put v) = Unit {0}
Target xs (open' h) = Unit {0}
Target xs (share s t) = There xs t

-- of each value: the target, and that its name has no zero
abbrev pub Fine : List Entry → Type 0
Fine [] = Unit {0}
Fine (x ∷ xs) = Fine xs × Target xs x.begun × (no_zero x.label.name ≡ true)

target_fine : (xs : List Entry) (b : Begun) → begun_ok xs b ≡ true → Target xs b
target_fine xs (put v) h = tt
target_fine xs (open' v) h = tt
target_fine xs (share s Root) h = tt
target_fine xs (share s (At n)) h = (suits_own xs n (share_family s) (and_parts (share_ok s) _ h).1).0

none_zero : (os : List Opened) (n : Name) → name_ok os n ≡ true → no_zero n ≡ true
none_zero os n h = go (in_object os) h where
  go : (b : Bool) → cond b (lawful_name n) (eqb (length n) 0) ≡ true → no_zero n ≡ true
  go true h = (and_parts (no_zero n) (utf8 n) (and_parts (leb (length n) 255) (no_zero n && utf8 n) (and_parts (ltb 0 (length n)) (leb (length n) 255 && (no_zero n && utf8 n)) h).1).1).0
  go false h = empty n h where
    empty : (n : Name) → eqb (length n) 0 ≡ true → no_zero n ≡ true
    empty [] h = refl
    empty (x ∷ n) h = absurd (omega (arith, eqb-true _ _ h))

pub lawful_fine : (m : Memory) (e : Steps) → Lawful m e → Fine (values e)
lawful_fine m [] l = tt
lawful_fine m (begin t b ∷ e) l =
    let a = allowed m e t b l.1 in
    (lawful_fine m e l.0, target_fine (values e) b a.begun, none_zero (opened e) t.name a.name)
lawful_fine m (close ∷ e) l = lawful_fine m e l.0

pub kept_fine : (s : Store) → Fine (values (standing s))
kept_fine s = lawful_fine (memory_lent s) (standing s) s.stands.lawful

pub kept_sound : (s : Store) → Sound (values (standing s))
kept_sound s = (outline_sound (standing s)).0

-- ---- holders, and the paths through them

abbrev pub Under : ℕ → Node → Type 0
Under n Root = Unit {0}
Under n (At h) = h < n

pub under_more : (n m : ℕ) (h : Node) → n ≤ m → Under n h → Under m h
under_more n m Root l u = tt
under_more n m (At h) l u = omega arith

above_first : (x : Entry) (xs : List Entry) → above (x ∷ xs) (At (length xs)) ≡ x.holder
above_first x xs = ap (λ o. unwrap_or (holder_in o) Root) (entry_first xs x)

above_later : (x : Entry) (xs : List Entry) (n : ℕ) → n < length xs → above (x ∷ xs) (At n) ≡ above xs (At n)
above_later x xs n l = ap (λ o. unwrap_or (holder_in o) Root) (entry_later xs x n l)

held_under : (xs : List Entry) (h : Node) → Held xs h → Under (length xs) h
held_under xs Root k = tt
held_under xs (At h) k = k.0

-- a holder was begun before what it holds
pub above_under : (xs : List Entry) → Sound xs → (n : ℕ) → n < length xs → Under n (above xs (At n))
above_under [] s n l = absurd (omega arith)
above_under (x ∷ xs) s n l =
    ⊎_elim
    (λ e. subst (λ k. Under k (above (x ∷ xs) (At k))) (sym e) (subst (Under (length xs)) (sym (above_first x xs)) (held_under xs x.holder s.1)))
    (λ m. subst (Under n) (sym (above_later x xs n m)) (above_under xs s.0 n m))
    (either n (length xs) (omega arith))

way_later : (x : Entry) (xs : List Entry) (h : Node) → Under (length xs) h → way (path_of (x ∷ xs)) h ≡ way (path_of xs) h
way_later x xs Root u = refl
way_later x xs (At h) u = path_later x xs h u

path_first : (x : Entry) (xs : List Entry) → path_of (x ∷ xs) (length xs) ≡ way (path_of xs) x.holder ++ length (inner xs x.holder) ∷ []
unfolding path_of
path_first x xs = let f : eqb (length xs) (length xs) ≡ true = eq-eqb _ _ refl in rw f

oldest_own : (x : Entry) (xs : List Entry) → oldest (length xs) (x ∷ xs) ≡ xs
oldest_own x xs = drop_one (suc (length xs) - length xs) 0 x xs (omega arith)

pub oldest_later : (x : Entry) (xs : List Entry) (n : ℕ) → n ≤ length xs → oldest n (x ∷ xs) ≡ oldest n xs
oldest_later x xs n l = drop_one (suc (length xs) - n) (length xs - n) x xs (omega arith)

-- the path of a value goes on from that of its holder
pub path_above : (xs : List Entry) → Sound xs → (n : ℕ) → n < length xs → path_of xs n ≡ way (path_of xs) (above xs (At n)) ++ place_of xs n ∷ []
path_above [] s n l = absurd (omega arith)
path_above (x ∷ xs) s n l = ⊎_elim here (λ m. earlier m (path_above xs s.0 n m)) (either n (length xs) (omega arith)) where
  here : n ≡ length xs → path_of (x ∷ xs) n ≡ way (path_of (x ∷ xs)) (above (x ∷ xs) (At n)) ++ place_of (x ∷ xs) n ∷ []
  here e =
      let u = held_under xs x.holder s.1 in
      let a : way (path_of (x ∷ xs)) x.holder ++ length (inner (oldest (length xs) (x ∷ xs)) x.holder) ∷ [] ≡ way (path_of xs) x.holder ++ length (inner xs x.holder) ∷ [] =
      ap (λ w. w ++ length (inner (oldest (length xs) (x ∷ xs)) x.holder) ∷ []) (way_later x xs x.holder u) ∙ ap (λ ys. way (path_of xs) x.holder ++ length (inner ys x.holder) ∷ []) (oldest_own x xs) in
      subst (λ k. path_of (x ∷ xs) k ≡ way (path_of (x ∷ xs)) (above (x ∷ xs) (At k)) ++ place_of (x ∷ xs) k ∷ []) (sym e)
      (path_first x xs ∙ sym a ∙ ap (λ h. way (path_of (x ∷ xs)) h ++ length (inner (oldest (length xs) (x ∷ xs)) h) ∷ []) (sym (above_first x xs)))

  earlier : n < length xs → path_of xs n ≡ way (path_of xs) (above xs (At n)) ++ place_of xs n ∷ [] → path_of (x ∷ xs) n ≡ way (path_of (x ∷ xs)) (above (x ∷ xs) (At n)) ++ place_of (x ∷ xs) n ∷ []
  earlier m ih =
      let u = under_more n (length xs) (above xs (At n)) (omega arith) (above_under xs s.0 n m) in
      path_later x xs n m ∙ ih ∙ ap (λ w. w ++ place_of xs n ∷ []) (sym (way_later x xs (above xs (At n)) u))
      ∙ ap (λ ys. way (path_of (x ∷ xs)) (above xs (At n)) ++ length (inner ys (above xs (At n))) ∷ []) (sym (oldest_later x xs n (omega arith)))
      ∙ ap (λ h. way (path_of (x ∷ xs)) h ++ length (inner (oldest n (x ∷ xs)) h) ∷ []) (sym (above_later x xs n m))

-- later values do not change a path
pub path_oldest : (xs : List Entry) (k n : ℕ) → k ≤ length xs → n < k → path_of (oldest k xs) n ≡ path_of xs n
path_oldest [] k n l m = absurd (omega arith)
path_oldest (x ∷ xs) k n l m =
    ⊎_elim
    (λ e. ap (λ ys. path_of ys n) (drop_none (suc (length xs) - k) (x ∷ xs) (omega arith)))
    (λ j. ap (λ ys. path_of ys n) (oldest_later x xs k (omega arith)) ∙ path_oldest xs k n (omega arith) m ∙ sym (path_later x xs n (omega arith)))
    (either k (suc (length xs)) l)

pub path_to_oldest : (xs : List Entry) (k : ℕ) (t : Node) → k ≤ length xs → Under k t → path_to (oldest k xs) t ≡ path_to xs t
path_to_oldest xs k Root l u = refl
path_to_oldest xs k (At n) l u = path_oldest xs k n l u

-- ---- inner values

pub inner_length : (xs : List Entry) (h : Node) → length (inner_names xs h) ≡ length (inner xs h)
unfolding inner inner_names
inner_length [] h = refl
inner_length (x ∷ xs) h = go (inner_length xs h) (same_holder x.holder h) where
  go : length (inner_names xs h) ≡ length (inner xs h) → (b : Bool) → length (inner_names xs h ++ cond b (x.label.name ∷ []) []) ≡ length (inner xs h ++ cond b (length xs ∷ []) [])
  go ih true = length-append (inner_names xs h) (x.label.name ∷ []) ∙ ap (λ n. n + 1) ih ∙ sym (length-append (inner xs h) (length xs ∷ []))
  go ih false = ap length (append-nil (inner_names xs h)) ∙ ih ∙ sym (ap length (append-nil (inner xs h)))

not_held : (xs : List Entry) (h : Node) (n : ℕ) → Held xs h → length xs ≤ n → same_holder h (At n) ≡ false
not_held xs Root n k l = refl
not_held xs (At h) n k l = ne_eqb h n (λ e. omega (arith, k.0))

-- no value is held by a later one
pub none_inner : (xs : List Entry) (n : ℕ) → Sound xs → length xs ≤ n + 1 → inner_names xs (At n) ≡ []
unfolding inner_names
none_inner [] n s l = refl
none_inner (x ∷ xs) n s l =
    let f : same_holder x.holder (At n) ≡ false = not_held xs x.holder n s.1 (omega arith) in
    rw f (append-nil (inner_names xs (At n)) ∙ none_inner xs n s.0 (omega arith))

pub sound_oldest : (xs : List Entry) (k : ℕ) → Sound xs → Sound (oldest k xs)
sound_oldest [] k s = subst Sound (sym (drop_nil k)) tt where
  drop_nil : (k : ℕ) → oldest k [] ≡ []
  drop_nil k = drop_none (0 - k) [] (omega arith)
sound_oldest (x ∷ xs) k s =
    ⊎_elim
    (λ l. subst Sound (sym (oldest_later x xs k (omega arith))) (sound_oldest xs k s.0))
    (λ l. subst Sound (sym (drop_none (suc (length xs) - k) (x ∷ xs) (omega arith))) s)
    (cases_lt k (suc (length xs)))

-- so the first inner value of a value comes after it
pub first_none : (xs : List Entry) (h : Node) → Sound xs → first_inner h ≤ length xs → inner_names (oldest (first_inner h) xs) h ≡ []
first_none xs Root s l = inner_none xs Root
first_none xs (At n) s l = none_inner (oldest (n + 1) xs) n (sound_oldest xs (n + 1) s) (omega (arith, length_oldest xs (n + 1) l))

pub fine_name : (xs : List Entry) → Fine xs → (k : ℕ) → no_zero (name_in (entry_at xs k)) ≡ true
unfolding entry_at
fine_name [] f k = refl
fine_name (x ∷ xs) f k = go (fine_name xs f.0 k) (eqb k (length xs)) where
  go : no_zero (name_in (entry_at xs k)) ≡ true → (b : Bool) → no_zero (name_in (cond b (Some x) (entry_at xs k))) ≡ true
  go ih true = f.2
  go ih false = ih
