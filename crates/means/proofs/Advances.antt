-- The window's start moves as the protocol's does: past every leading segment that is acknowledged; whole units leave, and the rest stays.
-- Assumes nothing.
use mathlib.Core.Path.{◌≡◌, refl, sym, ap, ◌∙◌, subst}
use mathlib.Core.Bool.{Bool, true, false, not}
use mathlib.Core.List.{List}
use mathlib.Core.Logic.{⊎_elim}
use mathlib.Core.Option.{some}
use Prim.Native.Nat.{ℕ, zero, suc, ◌+◌, ◌-◌, ◌%◌, ◌≤◌, ◌<◌}
use native.Mathlib.Omega.{arith}
use borrow.Author.Tests.{eq-eqb, ne_eqb, not-false, not-true as not_yes}
use lib.Dec.{eqb}
use lib.ListN.{length, take, drop, get_or, length-drop}
use lib.Seq.{get_or-take, get_or-drop, length-take-le}
use Rattle.laws.specs.Choice.{if◌then◌else◌}
use Rattle.laws.proofs.Numbers.{lt_cases}
use Rattle.laws.proofs.Choice.{chosen, passed_by}
use Rattle.slots.specs.Ring.{round_of, back_of, cleared}
use Rattle.slots.proofs.RingLaws.{round_lt, round_add, back_lt, forth_back, run_le, cleared_out, cleared_length}
use Rattle.store.specs.Store.{ends_in, last_end_in}
use Rattle.store.proofs.Laws.{last_le}
use Rattle.channel.specs.declared.record.Channel.{Channel}
use Rattle.channel.specs.Record.{held_in, with_window, with_marks}
use Rattle.channel.specs.Standing.{oldest_of, Counted}
use Rattle.channel.specs.Asked.{Asked}
use Rattle.channel.proofs.StandingLaws.{counted_is}
use Rattle.sender.specs.Directives.{place_at}
use Rattle.sender.proofs.AskedLaws.{from_oldest}
use Rattle.sender_acks.specs.Acks.{run_at, confirmed_at, whole_at, advanced}
use Rattle.ends.proofs.Passed.{passed_acked, stops_unacked}
use Rattle.protocol.specs.Numbers.{number_at}
use Rattle.protocol.specs.Units.{Segment, blank, endings, whole_to}
use Rattle.protocol.specs.Sending.{advance}
use Rattle.protocol.proofs.Small.{not_true}
use Rattle.means.specs.Meaning.{lying}
use Rattle.means.proofs.Lying.{lying_same}
use Rattle.means.proofs.Runs.{Lies, run_endings, whole_by, run_whole}
use Rattle.means.proofs.Sends.{held_at, Holds, Windowed}
use Rattle.means.proofs.SenderPlaces.{from_start}

-- k marked, and then one that is not: the protocol's start moves past k
advance_run : (m k : ℕ) (f : ℕ → Bool) (i : ℕ) → k ≤ m → ((j : ℕ) → j < k → f (i + j) ≡ true) → f (i + k) ≡ false → advance m f i ≡ i + k
advance_run zero k f i h set stop = omega arith
advance_run (suc m) zero f i h set stop =
    let e : i + 0 ≡ i = omega arith in
    passed_by (f i) (advance m f (suc i)) i (ap f (sym e) ∙ stop) ∙ sym e
advance_run (suc m) (suc k) f i h set stop =
    let e : i + 0 ≡ i = omega arith in
    let last : suc i + k ≡ i + suc k = omega arith in
    chosen (f i) (advance m f (suc i)) i (ap f (sym e) ∙ set 0 (omega arith))
    ∙ advance_run m k f (suc i) (omega arith)
    (λ j l. let q : suc i + j ≡ i + suc j = omega arith in ap f q ∙ set (suc j) (omega arith))
    (ap f last ∙ stop)
    ∙ last

module _ (c : Channel) (mem lens : List ℕ) (line : List Segment) (oldest start next : ℕ) (acked : ℕ → Bool) (a : Asked c mem lens)
    (x : Holds c mem lens line oldest) (w : Windowed c oldest start next acked) where
  abbrev slots : ℕ
  slots = c.limits.slots

  abbrev place : ℕ
  place = c.window.place

  -- how many are passed
  abbrev n : ℕ
  n = run_at c

  counts : Counted c.limits c.window
  counts = counted_is c.limits c.window a.standing.ring a.standing.flight

  few : n ≤ c.window.flight
  few = run_le c.acked slots c.window.flight place

  -- ---- how far: the record counts what is in flight, the protocol the window; what is acknowledged was handed out

  passed_is : (j : ℕ) → j < n → acked (start + j) ≡ true
  passed_is j l =
      let p = passed_acked c lens a.standing j l in
      not-false (acked (start + j)) (sym (w.noted j (omega (arith, p.0, counts.flight))) ∙ ne_eqb (get_or c.acked (place_at c j) 0) 0 p.1)

  stops_is : acked (start + n) ≡ false
  stops_is =
      ⊎_elim
      (λ l.
      not_yes (acked (start + n)) (sym (w.noted n (omega (arith, counts.flight))) ∙ eq-eqb (get_or c.acked (place_at c n) 0) 0 (stops_unacked c lens a.standing l)))
      (λ l.
      not_true (acked (start + n)) (λ t. let z : start + n < next = w.sent (start + n) t in omega (arith, few, w.flight)))
      (lt_cases n c.window.flight)

  pub moves_to : advance c.limits.window acked start ≡ start + n
  moves_to = advance_run c.limits.window n acked start (omega (arith, few, counts.window)) passed_is stops_is

  -- ---- what is passed

  abbrev pub gone : List Segment
  gone = take n (drop start line)

  gone_length : length gone ≡ n
  gone_length = length-take-le n (drop start line) (omega (arith, length-drop start line, x.count, w.behind, few, counts.flight))

  gone_lies : Lies c mem lens place gone
  gone_lies j l =
      from_start c mem lens line oldest start next acked a x w j (omega (arith, gone_length, few, counts.flight))
      ∙ ap some (sym (get_or-take n (drop start line) j blank (omega (arith, gone_length)) ∙ get_or-drop start line j blank))

  fits : length gone ≤ slots
  fits = omega (arith, gone_length, few, counts.flight, counts.held)

  pub confirmed_is : confirmed_at c ≡ endings gone
  confirmed_is =
      ap (λ (k : ℕ). ends_in c.marks slots k place) (sym gone_length)
      ∙ run_endings c mem lens gone place counts.place fits gone_lies

  -- the oldest held afterwards, where `done` of those passed are of whole units
  abbrev oldest_by : Bool → ℕ → ℕ
  oldest_by none_done done = if none_done then oldest else start + done

  whole_by_lem : (done : ℕ) → whole_by c mem lens oldest start done ≡ oldest_by (eqb done 0) done
  whole_by_lem zero = refl
  whole_by_lem (suc k) = sym (passed_by (eqb (suc k) 0) oldest (start + suc k) (ne_eqb (suc k) 0 (λ e. omega arith)))

  whole_is : whole_to oldest start gone ≡ oldest_by (eqb (whole_at c) 0) (whole_at c)
  whole_is =
      run_whole c mem lens gone oldest start place counts.place fits gone_lies
      ∙ ap (λ (k : ℕ). whole_by c mem lens oldest start (last_end_in c.marks slots k place)) gone_length
      ∙ whole_by_lem (whole_at c)

  -- ---- the record afterwards

  abbrev moved : Bool → ℕ → Channel
  moved none_done done =
      with_marks
      (with_window c
      (record {
        start = (c.window.start + n) % 256;
        place = place_at c n;
        behind = if none_done then c.window.behind + n else n - done;
        ahead = c.window.ahead - n;
        flight = c.window.flight - n;
        way = c.window.way;
      }))
      (if none_done then c.marks else cleared c.marks slots (c.window.behind + done) (oldest_of slots c.window))

  all : c.window.behind + n ≤ slots
  all = omega (arith, few, counts.flight, counts.held)

  first_in : oldest_of slots c.window < slots
  first_in = back_lt slots place c.window.behind counts.place

  moved_holds : (t : Bool) (done : ℕ) → done ≤ n → Holds (moved t done) mem lens line (oldest_by t done)
  moved_holds true done l =
      let old = oldest_of slots c.window in
      let same : back_of slots (place_at c n) (c.window.behind + n) ≡ old
      = ap (λ (p : ℕ). back_of slots p (c.window.behind + n)) (sym (from_oldest slots c.window n counts.place all))
      ∙ forth_back slots old (c.window.behind + n) first_in all
      in
      record {
        count = omega (arith, x.count, few, counts.flight);
        each = λ j h.
            ap (λ (p : ℕ). lying (moved true done) mem lens (round_of slots (p + j))) same
            ∙ lying_same c (moved true done) mem lens mem lens (held_at c j) refl (λ used. refl)
            ∙ x.each j (omega (arith, few, counts.flight));
        whole = x.whole;
        marks = x.marks;
        acks = x.acks;
      }
  moved_holds false done l =
      let old = oldest_of slots c.window in
      let free = c.window.behind + done in
      let from = round_of slots (old + free) in
      let split : free + (n - done) ≡ c.window.behind + n = omega arith in
      let new : back_of slots (place_at c n) (n - done) ≡ from
      = ap (λ (p : ℕ). back_of slots p (n - done))
      (sym (from_oldest slots c.window n counts.place all)
      ∙ ap (λ (p : ℕ). round_of slots (old + p)) (sym split)
      ∙ sym (round_add slots old free (n - done) (omega (arith, all, first_in))))
      ∙ forth_back slots from (n - done) (round_lt slots (old + free) (omega (arith, all, first_in))) (omega (arith, all))
      in
      record {
        count = omega (arith, x.count, w.behind, few, counts.flight);
        each = λ j h.
            let far : free + j < held_in c.window = omega (arith, few, counts.flight) in
            let index : oldest + (free + j) ≡ start + done + j = omega (arith, w.behind) in
            ap (λ (p : ℕ). lying (moved false done) mem lens (round_of slots (p + j))) new
            ∙ ap (lying (moved false done) mem lens) (round_add slots old free j (omega (arith, first_in, counts.held)))
            ∙ lying_same c (moved false done) mem lens mem lens (held_at c (free + j))
            (cleared_out c.marks slots free old (free + j) first_in (omega (arith, counts.held)) (omega arith))
            (λ used. refl)
            ∙ x.each (free + j) far
            ∙ ap (λ (i : ℕ). some (get_or line i blank)) index;
        whole = x.whole;
        marks = cleared_length c.marks slots free old ∙ x.marks;
        acks = x.acks;
      }

  number_is : (c.window.start + n) % 256 ≡ number_at (start + n)
  unfolding number_at
  number_is = omega (arith, w.number)

  noted_is : (j : ℕ) → j < c.window.ahead - n → eqb (get_or c.acked (round_of slots (place_at c n + j)) 0) 0 ≡ not (acked (start + n + j))
  noted_is j l =
      let e : start + (n + j) ≡ start + n + j = omega arith in
      ap (λ (p : ℕ). eqb (get_or c.acked p 0) 0) (round_add slots place n j (omega (arith, counts.place, counts.held)))
      ∙ w.noted (n + j) (omega arith)
      ∙ ap (λ (i : ℕ). not (acked i)) e

  moved_windowed : (t : Bool) (done : ℕ) → done ≤ n → Windowed (moved t done) (oldest_by t done) (start + n) next acked
  moved_windowed true done l =
      record {
        number = number_is;
        behind = omega (arith, w.behind);
        flight = omega (arith, w.flight, few);
        noted = noted_is;
        sent = w.sent;
      }
  moved_windowed false done l =
      record {
        number = number_is;
        behind = omega arith;
        flight = omega (arith, w.flight, few);
        noted = noted_is;
        sent = w.sent;
      }

  done_few : whole_at c ≤ n
  done_few = last_le c.marks slots n place

  pub advanced_holds : Holds (advanced c) mem lens line (whole_to oldest start gone)
  unfolding advanced
  advanced_holds =
      let t = eqb (whole_at c) 0 in
      subst (λ (k : ℕ). Holds (moved t (whole_at c)) mem lens line k) (sym whole_is) (moved_holds t (whole_at c) done_few)

  pub advanced_windowed : Windowed (advanced c) (whole_to oldest start gone) (start + n) next acked
  unfolding advanced
  advanced_windowed =
      let t = eqb (whole_at c) 0 in
      subst (λ (k : ℕ). Windowed (moved t (whole_at c)) k (start + n) next acked) (sym whole_is) (moved_windowed t (whole_at c) done_few)
