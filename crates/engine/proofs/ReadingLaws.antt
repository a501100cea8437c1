-- Laws of the reader of a trace: a record in the buffer that grows by an octet.
-- Assumes nothing.
use mathlib.Core.Path.{◌≡◌, refl, sym, ap, ap₂, subst, ◌∙◌}
use mathlib.Core.Bool.{Bool, true, false}
use mathlib.Core.List.{List, [], ◌∷◌, ◌++◌}
use Prim.Native.Nat.{ℕ, ◌+◌, ◌-◌, ◌≤◌, ◌<◌}
use native.Mathlib.Numerals.{add-one}
use native.Mathlib.Omega.{arith}
use borrow.Author.Tests.{lt-ltb, le-ltb, ltb-true, ltb-false, eqb-true, eqb-false, ne_eqb}
use lib.Dec.{ltb, eqb}
use lib.ListN.{length, get_or, take, drop, set, length-set}
use lib.Seq.{length-take-le, get_or-take, get_or-set_other, take-suc-set, drop-cons, drop-set-lt, drop-drop}
use Rattle.std.specs.Prelude.{if◌then◌else◌, Some}
use Rattle.laws.proofs.Choice.{either_way, chosen, passed_by}
use Rattle.laws.proofs.Lists.{take_drop}
use Rattle.engine.specs.Trace.{Entry, little_at, is_whole, entry_of, after, records_from}
use Rattle.engine.specs.Reading.{unfinished, held_in, Feeds}

-- ---- the first n octets of a buffer

-- whether they are a record, told by n and the two octets of the length
abbrev pub whole_at : ℕ → List ℕ → Bool
whole_at n buffer = eqb n (4 + little_at buffer 0)

module _ (n : ℕ) (buffer : List ℕ) where
  pub number_taken : (k : ℕ) → k + 1 < n → little_at (take n buffer) k ≡ little_at buffer k
  number_taken k h = simp (get_or-take n buffer k 0 (omega arith), get_or-take n buffer (k + 1) 0 h)

  pub whole_at_lem : n ≤ length buffer → is_whole (take n buffer) ≡ whole_at n buffer
  whole_at_lem h =
      ap (λ (m : ℕ). if ltb m 4 then false else eqb m (4 + little_at (take n buffer) 0)) (length-take-le n buffer h)
      ∙ either_way
      (ltb n 4)
      (λ e. simp (e, ne_eqb n (4 + little_at buffer 0) (λ f. omega (arith, ltb-true n 4 e))))
      (λ e. simp (e) (ap (λ (l : ℕ). eqb n (4 + l)) (number_taken 0 (omega (arith, ltb-false n 4 e)))))

  pub whole_size : whole_at n buffer ≡ true → n ≡ 4 + little_at buffer 0
  whole_size w = eqb-true n (4 + little_at buffer 0) w

  -- a head is never more than what its head says
  pub held_or_none : unfinished n buffer ≡ (if ltb n (4 + little_at buffer 0) then n else 0)
  unfolding unfinished
  held_or_none =
      either_way
      (ltb n 4)
      (λ e. simp (e, lt-ltb n (4 + little_at buffer 0) (omega (arith, ltb-true n 4 e))))
      (λ e. simp (e))

  pub held_on : n < 4 + little_at buffer 0 → unfinished n buffer ≡ n
  held_on l = held_or_none ∙ chosen (ltb n (4 + little_at buffer 0)) n 0 (lt-ltb n (4 + little_at buffer 0) l)

  pub not_held : 4 + little_at buffer 0 ≤ n → unfinished n buffer ≡ 0
  not_held l = held_or_none ∙ passed_by (ltb n (4 + little_at buffer 0)) n 0 (le-ltb n (4 + little_at buffer 0) l)

  -- a record that is whole is not held any more
  pub given_away : whole_at n buffer ≡ true → unfinished n buffer ≡ 0
  given_away w = not_held (omega (arith, whole_size w))

  pub entry_taken : 4 ≤ n → entry_of (take n buffer) ≡ record { kind = little_at buffer 2; body = take (n - 4) (drop 4 buffer) }
  entry_taken h =
      let e : 4 + (n - 4) ≡ n = omega arith in
      ap₂ (λ (k : ℕ) (b : List ℕ). record { kind = k; body = b }) (number_taken 2 (omega arith)) (sym (take_drop 4 (n - 4) buffer ∙ ap (λ (m : ℕ). drop 4 (take m buffer)) e))

  -- a number of octets that are held, where they are any
  pub short_of : unfinished n buffer ≡ n → n < 4 + little_at buffer 0
  short_of u =
      either_way
      (ltb n (4 + little_at buffer 0))
      (λ e. ltb-true n (4 + little_at buffer 0) e)
      (λ e. let z : 0 ≡ n = sym (not_held (ltb-false n (4 + little_at buffer 0) e)) ∙ u in omega arith)

pub held_again : (n : ℕ) (buffer : List ℕ) → unfinished (unfinished n buffer) buffer ≡ unfinished n buffer
held_again n buffer =
    either_way
    (ltb n (4 + little_at buffer 0))
    (λ e. ap (λ (m : ℕ). unfinished m buffer) (held_on n buffer (ltb-true n (4 + little_at buffer 0) e)))
    (λ e. let z = not_held n buffer (ltb-false n (4 + little_at buffer 0) e) in ap (λ (m : ℕ). unfinished m buffer) z ∙ held_on 0 buffer (omega arith) ∙ sym z)

-- ---- an octet more

module _ (n : ℕ) (buffer : List ℕ) (o : ℕ) where
  pub still_unfinished : unfinished n buffer ≡ n → whole_at (n + 1) (set buffer n o) ≡ false → unfinished (n + 1) (set buffer n o) ≡ n + 1
  still_unfinished u w =
      held_on (n + 1) (set buffer n o) (
      either_way
      (ltb n 2)
      (λ e. omega (arith, ltb-true n 2 e))
      (λ e. let h : 2 ≤ n = ltb-false n 2 e in omega (arith, length_stays h, short_of n buffer u, eqb-false (n + 1) (4 + little_at (set buffer n o) 0) w))
      )
    where
      length_stays : 2 ≤ n → little_at (set buffer n o) 0 ≡ little_at buffer 0
      length_stays h = simp (get_or-set_other buffer n 0 o 0 (λ z. omega (arith, z)), get_or-set_other buffer n 1 o 0 (λ z. omega (arith, z)))

  module _ (fits : n < length buffer) (piece : List ℕ) (at : ℕ) (there : at < length piece) (is : o ≡ get_or piece at 0) where
    grown : take (n + 1) (set buffer n o) ≡ take n buffer ++ (o ∷ [])
    grown = ap (λ (m : ℕ). take m (set buffer n o)) (add-one n) ∙ take-suc-set buffer n o fits

    comes : records_from (take n buffer) (drop at piece) ≡ records_from (take n buffer) (o ∷ drop (at + 1) piece)
    comes =
        ap (records_from (take n buffer)) (drop-cons piece at 0 there ∙ ap₂ (λ (x : ℕ) (m : ℕ). x ∷ drop m piece) (sym is) (sym (add-one at)))

    pub reads_on : is_whole (take (n + 1) (set buffer n o)) ≡ false
        → records_from (take n buffer) (drop at piece) ≡ records_from (take (n + 1) (set buffer n o)) (drop (at + 1) piece)
    unfolding records_from
    reads_on w =
        comes
        ∙ passed_by (is_whole (take n buffer ++ (o ∷ []))) (after (entry_of (take n buffer ++ (o ∷ []))) (records_from [] (drop (at + 1) piece))) (records_from (take n buffer ++ (o ∷ [])) (drop (at + 1) piece)) (ap is_whole (sym grown) ∙ w)
        ∙ ap (λ (l : List ℕ). records_from l (drop (at + 1) piece)) (sym grown)

    pub reads_whole : is_whole (take (n + 1) (set buffer n o)) ≡ true
        → records_from (take n buffer) (drop at piece) ≡ after (entry_of (take (n + 1) (set buffer n o))) (records_from [] (drop (at + 1) piece))
    unfolding records_from
    reads_whole w =
        comes
        ∙ chosen (is_whole (take n buffer ++ (o ∷ []))) (after (entry_of (take n buffer ++ (o ∷ []))) (records_from [] (drop (at + 1) piece))) (records_from (take n buffer ++ (o ∷ [])) (drop (at + 1) piece)) (ap is_whole (sym grown) ∙ w)
        ∙ ap (λ (l : List ℕ). after (entry_of l) (records_from [] (drop (at + 1) piece))) (sym grown)

-- ---- a call of the reader

module _ (before : List ℕ) (held : ℕ) (piece : List ℕ) (from : ℕ) where
  -- where it stands: n octets are in the buffer, and the piece is read up to an index
  pub record Reads (buffer : List ℕ) (n at : ℕ) : Type 0 where
    pub same : records_from (held_in held before) (drop from piece) ≡ records_from (take n buffer) (drop at piece)
    pub short : unfinished n buffer ≡ n
    pub fits : n < 65539
    pub stays : drop n buffer ≡ drop n before
    pub onward : from ≤ at
    pub within : from < length piece → at ≤ length piece
    pub sized : length buffer ≡ length before
    pub wide : 65539 ≤ length before

  pub begins : (n : ℕ) → n ≡ unfinished held before → n < 65539 → 65539 ≤ length before → Reads before n from
  begins n e f w =
      record {
        same = ap (λ (m : ℕ). records_from (take m before) (drop from piece)) (sym e);
        short = ap (λ (m : ℕ). unfinished m before) e ∙ held_again held before ∙ sym e;
        fits = f;
        stays = refl;
        onward = omega arith;
        within = λ h. omega arith;
        sized = refl;
        wide = w;
      }

  module _ (buffer : List ℕ) (n at : ℕ) (R : Reads buffer n at) (there : at < length piece) where
    stayed : drop (n + 1) (set buffer n (get_or piece at 0)) ≡ drop (n + 1) before
    stayed =
        drop-set-lt (n + 1) buffer n (get_or piece at 0) (omega arith)
        ∙ sym (drop-drop 1 n buffer)
        ∙ ap (drop 1) R.stays
        ∙ drop-drop 1 n before

    pub goes_on : is_whole (take (n + 1) (set buffer n (get_or piece at 0))) ≡ false → little_at (set buffer n (get_or piece at 0)) 0 < 65536
        → Reads (set buffer n (get_or piece at 0)) (n + 1) (at + 1)
    goes_on w small =
        let b = set buffer n (get_or piece at 0) in
        let fits : n < length buffer = omega (arith, R.sized, R.wide, R.fits) in
        let still = still_unfinished n buffer (get_or piece at 0) R.short (sym (whole_at_lem (n + 1) b (omega (arith, length-set buffer n (get_or piece at 0), fits))) ∙ w) in
        record {
          same = R.same ∙ reads_on n buffer (get_or piece at 0) fits piece at there refl w;
          short = still;
          fits = omega (arith, small, short_of (n + 1) b still);
          stays = stayed;
          onward = omega (arith, R.onward);
          within = λ h. omega arith;
          sized = length-set buffer n (get_or piece at 0) ∙ R.sized;
          wide = R.wide;
        }

    pub gives_record : (kind : ℕ) → kind ≡ little_at (set buffer n (get_or piece at 0)) 2
        → is_whole (take (n + 1) (set buffer n (get_or piece at 0))) ≡ true
        → Feeds before held piece from (record { kind = Some kind; held = n + 1; next = at + 1 }) (set buffer n (get_or piece at 0))
    gives_record kind e w = subst (λ (k : ℕ). Feeds before held piece from (record { kind = Some k; held = n + 1; next = at + 1 }) (set buffer n (get_or piece at 0))) (sym e) (
        record {
          gives =
              R.same
              ∙ reads_whole n buffer (get_or piece at 0) (omega (arith, R.sized, R.wide, R.fits)) piece at there refl w
              ∙ ap₂ (λ (x : Entry) (m : ℕ). after x (records_from (take m (set buffer n (get_or piece at 0))) (drop (at + 1) piece))) (entry_taken (n + 1) (set buffer n (get_or piece at 0)) (omega (arith, whole_size (n + 1) (set buffer n (get_or piece at 0)) is_whole_lem))) (sym (given_away (n + 1) (set buffer n (get_or piece at 0)) is_whole_lem));
          ends = λ f. cc;
          goes_on = λ h. (omega (arith, R.onward), omega arith);
          body_lies = λ k f. (omega (arith, whole_size (n + 1) (set buffer n (get_or piece at 0)) is_whole_lem), inside);
          stays = stayed;
        }
        )
      where
        inside : n + 1 ≤ length (set buffer n (get_or piece at 0))
        inside = omega (arith, length-set buffer n (get_or piece at 0), R.sized, R.wide, R.fits)

        is_whole_lem : whole_at (n + 1) (set buffer n (get_or piece at 0)) ≡ true
        is_whole_lem = sym (whole_at_lem (n + 1) (set buffer n (get_or piece at 0)) inside) ∙ w
