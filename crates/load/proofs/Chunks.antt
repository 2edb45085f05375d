-- The whole chunks of a list, and the numbers in them.
use Rattle.std.proofs.Common.{◌≡◌, ℕ, zero, suc, ◌+◌, ◌*◌, ◌/◌, ◌<◌, ◌≤◌, List, [], ◌∷◌, map, length, get_or, take, drop, Some, None, Option, sym, refl, ap, ◌∙◌, subst, suc-mul, add_comm, zero-mul, arith, length-append, length-take, drop-drop, take_all, Bor}
use Rattle.std.specs.Simd.{first_chunks}
use Rattle.std.specs.Slice.Iter.{chunks_exact_rest, chunks_exact_size, chunks_exact_steps}
use Rattle.std.specs.Iterator.{AlwaysYields, Yields}
use Rattle.std.specs.List.{AllWithin, HoldsAt, range_with_len, zip}
use Rattle.std.specs.Option.{MatchOption}
use Rattle.std.specs.declared.slice.ChunksExact.{ChunksExact}
use Rattle.std.specs.Iterator.Adapters.{zip_first, zip_second}
use Rattle.std.specs.declared.iter.Zip.{Zip}
use Rattle.std.specs.declared.ops.Range.{Range}
use Rattle.std.proofs.iter.Yields.{nat_range_steps}
use Rattle.std.proofs.lemmas.Iterator.{YieldsList, YieldsList-from_range, YieldsList-from_zip, zips}
use Rattle.std.proofs.lemmas.Iterator.Consumers.{YieldsList-turn, YieldsList-end}
use Rattle.std.proofs.lemmas.List.{get_or_default}
use Rattle.std.proofs.lemmas.List.FromFn.{length-range_with_len, get_or-range_with_len}
use Rattle.std.proofs.lemmas.Slice.Zip.{length-zip, get_or-zip}
use Rattle.std.proofs.Math.Nat.{div-mul-le_self, lt-div-mul-add}
use Rattle.std.proofs.Math.Seq.{take-append_seam, drop-append_seam}
use Rattle.redbin.specs.Bytes.{number}
use Rattle.redbin.specs.Layout.{width}
use Rattle.load.specs.Runs.{entry, entries, Sought}
use Rattle.redbin.specs.declared.width.Width.{Width}
use Rattle.redbin.specs.declared.width.Width.TheVariants.{One, Two, Four}

module _ {A : Type 0} (n : ℕ) (some : 0 < n) where
  -- `chunks_exact` gives these chunks
  pub chunks_given : (k : ℕ) (s : ChunksExact A) → chunks_exact_size s ≡ n → k * n ≤ length (chunks_exact_rest s) → length (chunks_exact_rest s) < k * n + n →
      AlwaysYields chunks_exact_steps (λ x. x.now) s (first_chunks n k (chunks_exact_rest s))
  chunks_given zero s e low high = λ x t h. omega (arith, e, zero-mul n, h.1.1, ap length h.1.0, length-append x.now (chunks_exact_rest t))
  chunks_given (suc k) s e low high = (
    (λ t h. omega (arith, e, suc-mul k n, h.1.0)),
    λ x t h.
        let cut = h.1.0 in
        let l : length x.now ≡ n = h.1.1 ∙ e in
        let front : x.now ≡ take n (chunks_exact_rest s) = rw (cut, ← l) (sym (take-append_seam x.now (chunks_exact_rest t))) in
        let back : chunks_exact_rest t ≡ drop n (chunks_exact_rest s) = rw (cut, ← l) (sym (drop-append_seam x.now (chunks_exact_rest t))) in
        let m : length (chunks_exact_rest s) ≡ n + length (chunks_exact_rest t) = omega (arith, ap length cut, length-append x.now (chunks_exact_rest t)) in
        (front, subst (λ (ys : List A). AlwaysYields chunks_exact_steps (λ x. x.now) t (first_chunks n k ys)) back (chunks_given k t (h.0 ∙ e) (omega (arith, suc-mul k n)) (omega (arith, suc-mul k n)))),
  )

  pub length-chunks : (k : ℕ) (xs : List A) → length (first_chunks n k xs) ≡ k
  length-chunks zero xs = refl
  length-chunks (suc k) xs = ap suc (length-chunks k (drop n xs))

pub chunk_at : (n k i : ℕ) (xs : List ℕ) → i < k → get_or (first_chunks n k xs) i [] ≡ take n (drop (i * n) xs)
chunk_at n zero i xs lt = absurd (omega arith)
chunk_at n (suc k) zero xs lt = rw (zero-mul n)
chunk_at n (suc k) (suc i) xs lt = chunk_at n k i (drop n xs) (omega arith) ∙ rw (drop-drop (i * n) n xs, suc-mul i n, add_comm (i * n) n)

-- the number in each
pub numbers_in : (unit k : ℕ) (bytes : List ℕ) → map number (first_chunks unit k bytes) ≡ entries unit k bytes
unfolding entries
numbers_in unit zero bytes = refl
numbers_in unit (suc k) bytes = ap (λ (ns : List ℕ). number (take unit bytes) ∷ ns) (numbers_in unit k (drop unit bytes))

module _ (unit : Width) where
  pub some_bytes : 0 < width unit
  some_bytes = by unit
    where
      by : (u : Width) → 0 < width u
      by One = omega arith
      by Two = omega arith
      by Four = omega arith

  -- all whole chunks of a list
  pub chunks_yielded : {A : Type 0} (s : ChunksExact A) (xs : List A) → chunks_exact_size s ≡ width unit → chunks_exact_rest s ≡ xs → YieldsList chunks_exact_steps (λ x. x.now) s (first_chunks (width unit) (length xs / width unit) xs)
  chunks_yielded s xs e f =
      let low = div-mul-le_self (length xs) (width unit) in
      let high : length xs < length xs / width unit * width unit + width unit = lt-div-mul-add some_bytes in
      record { runs = rw (← f) (chunks_given (width unit) some_bytes (length (chunks_exact_rest s) / width unit) s e (rw f low) (rw f high)) }

  -- four bytes hold a whole chunk
  four : (i : ℕ) (bytes : List ℕ) → number (take 4 (take (width unit) (drop (i * width unit) bytes))) ≡ entry (width unit) i bytes
  four i bytes = by unit
    where
      by : (u : Width) → number (take 4 (take (width u) (drop (i * width unit) bytes))) ≡ number (take (width u) (drop (i * width unit) bytes))
      by One = ap number (take_all 4 (take (width One) (drop (i * width unit) bytes)) (omega (arith, length-take {A = ℕ})))
      by Two = ap number (take_all 4 (take (width Two) (drop (i * width unit) bytes)) (omega (arith, length-take {A = ℕ})))
      by Four = ap number (take_all 4 (take (width Four) (drop (i * width unit) bytes)) (omega (arith, length-take {A = ℕ})))

  whole_entry : (i k : ℕ) (bytes : List ℕ) → i < k → number (take 4 (get_or (first_chunks (width unit) k bytes) i [])) ≡ entry (width unit) i bytes
  whole_entry i k bytes lt = rw (chunk_at (width unit) k i bytes lt) (four i bytes)

  -- the first chunk whose number is not below a limit
  module _ (limit k : ℕ) (bytes : List ℕ) where
    abbrev chunks : List (List ℕ)
    chunks = first_chunks (width unit) k bytes

    abbrev pub Bad : List ℕ → Type 0
    Bad b = limit ≤ number (take 4 b)

    abbrev pub Fine : List ℕ → Type 0
    Fine b = number (take 4 b) < limit

    pub sought : (r : Option ℕ) → MatchOption r (AllWithin Fine chunks 0 (length chunks)) (λ i. (i < length chunks) × HoldsAt Bad chunks i × AllWithin Fine chunks 0 i) → Sought (width unit) limit k bytes r
    sought None h = λ i lt.
        let l = length-chunks (width unit) some_bytes k bytes in
        let f = h i [] (omega arith) (omega arith) in
        rw (whole_entry i k bytes lt) at f
    sought (Some i) h =
        let l = length-chunks (width unit) some_bytes k bytes in
        let lt : i < k = omega (arith, h.0) in
        let f = h.1 [] in
        (lt, rw (whole_entry i k bytes lt) at f, λ j lj. let g = h.2 j [] (omega arith) lj in rw (whole_entry j k bytes (omega arith)) at g)

  -- how many whole chunks there are
  pub count_of : (n : ℕ) (bytes : List ℕ) → length bytes ≡ n * width unit → length bytes / width unit ≡ n
  count_of n bytes h = rw h (by unit)
    where
      by : (u : Width) → n * width u / width u ≡ n
      by One = omega arith
      by Two = omega arith
      by Four = omega arith

  -- the chunks in a row, each beside its index
  abbrev pub indexed : ℕ → List ℕ → List (ℕ × List ℕ)
  indexed n bytes = zip (range_with_len 0 n) (first_chunks (width unit) n bytes)

  pub length-indexed : (n : ℕ) (bytes : List ℕ) → length (indexed n bytes) ≡ n
  length-indexed n bytes = omega (arith, length-zip (range_with_len 0 n) (first_chunks (width unit) n bytes), length-range_with_len 0 n, length-chunks (width unit) some_bytes n bytes)

  pub indexed_at : (n k : ℕ) (bytes : List ℕ) (d : ℕ × List ℕ) → k < n → get_or (indexed n bytes) k d ≡ (k, take (width unit) (drop (k * width unit) bytes))
  indexed_at n k bytes d lt =
      let r = length-range_with_len 0 n in
      let l = length-chunks (width unit) some_bytes n bytes in
      let z : 0 + k ≡ k = omega arith in
      get_or-zip (range_with_len 0 n) (first_chunks (width unit) n bytes) k d (omega arith) (omega arith)
      ∙ (λ i. ((get_or-range_with_len 0 n k d.0 lt ∙ z) i, (get_or_default (first_chunks (width unit) n bytes) k d.1 [] (omega arith) ∙ chunk_at (width unit) n k bytes lt) i))

  pub indexed_yielded : (s : Zip (Range ℕ) (ChunksExact ℕ)) (n : ℕ) (bytes : List ℕ) → zip_first s ≡ record { start = 0; end = n } → chunks_exact_size (zip_second s) ≡ width unit → chunks_exact_rest (zip_second s) ≡ bytes → length bytes ≡ n * width unit →
      YieldsList (zips nat_range_steps chunks_exact_steps) (λ p. (p.0, p.1.now)) s (indexed n bytes)
  indexed_yielded s n bytes a b c long =
      let e = count_of n bytes long in
      YieldsList-from_zip (YieldsList-from_range 0 n n a (omega arith)) (rw e at (chunks_yielded (zip_second s) bytes b c))

  -- a turn of a loop over them, and its end
  module _ (s t u : Zip (Range ℕ) (ChunksExact ℕ)) (n : ℕ) (bytes : List ℕ) (all : YieldsList (zips nat_range_steps chunks_exact_steps) (λ p. (p.0, p.1.now)) s (indexed n bytes)) (xs : List (ℕ × Bor (List ℕ))) (y : Yields (zips nat_range_steps chunks_exact_steps) s xs t) where
    pub indexed_turn : (r : Option (ℕ × Bor (List ℕ))) (p : ℕ × Bor (List ℕ)) → r ≡ Some p → zips nat_range_steps chunks_exact_steps t r u →
        (length xs < n) × (p.0 ≡ length xs) × (number (take 4 p.1.now) ≡ entry (width unit) (length xs) bytes)
    indexed_turn r p e z =
        let h = YieldsList-turn all xs t y r u p e z in
        let lt : length xs < n = omega (arith, h.0, length-indexed n bytes) in
        let q = h.1 ∙ indexed_at n (length xs) bytes (p.0, p.1.now) lt in
        (lt, ap (λ (v : ℕ × List ℕ). v.0) q, ap (λ (v : ℕ × List ℕ). number (take 4 v.1)) q ∙ four (length xs) bytes)

    pub indexed_end : (r : Option (ℕ × Bor (List ℕ))) → r ≡ None → zips nat_range_steps chunks_exact_steps t r u → length xs ≡ n
    indexed_end r e z = (YieldsList-end all xs t y r u e z).1 ∙ length-indexed n bytes
