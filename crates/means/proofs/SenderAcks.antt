-- A Data Ack at the record is the protocol's: the same numbers are awaited, the start moves as far, and as many units are confirmed.
-- Assumes nothing.
use mathlib.Core.Path.{◌≡◌, refl, sym, ap, ◌∙◌, subst, subst₂}
use mathlib.Core.Bool.{Bool, true, false, not, ◌&&◌}
use mathlib.Core.List.{List}
use mathlib.Core.Logic.{⊎_elim}
use Prim.Native.Nat.{ℕ, zero, suc, ◌+◌, ◌-◌, ◌≤◌, ◌<◌}
use native.Mathlib.Nat.{le_refl}
use native.Mathlib.Omega.{arith}
use borrow.Author.Tests.{lt-ltb, le-ltb}
use lib.Dec.{ltb, eqb}
use lib.ListN.{take, drop, get_or, set, length-set}
use lib.Seq.{get_or-set_same, get_or-set_other}
use Rattle.std.specs.Prelude.{if◌then◌else◌}
use Rattle.laws.proofs.Numbers.{lt_cases}
use Rattle.slots.proofs.RingLaws.{round_lt, round_apart}
use Rattle.channel.specs.declared.record.Channel.{Channel}
use Rattle.channel.specs.declared.answer.Refusal.{Refusal}
use Rattle.channel.specs.declared.answer.Refusal.TheVariants as refusal
use Rattle.channel.specs.declared.step.Stepped.{Stepped}
use Rattle.channel.specs.Answers.{number_of, confirmed_of, refusal_number}
use Rattle.channel.specs.Record.{sends, with_acked}
use Rattle.channel.specs.Record as record_of
use Rattle.channel.specs.Steps.{refusing}
use Rattle.channel.specs.Asked.{Asked}
use Rattle.channel.proofs.SettingsLaws.{fit_is}
use Rattle.channel.proofs.StandingLaws.{counted_is}
use Rattle.sender.specs.Directives.{place_at}
use Rattle.sender_acks.specs.Acks.{away_of, is_awaited, recorded, run_at, advanced, data_ack_step}
use Rattle.sender_acks.proofs.AckLaws.{data_ack_state, data_ack_ignored, data_ack_done, awaited_sent, not_sent, sent_awaited}
use Rattle.ends.proofs.KeepsDirectives.{timers_stand, acked_stand}
use Rattle.protocol.specs.Numbers.{number_at, distance}
use Rattle.protocol.specs.Units.{Segment, endings, whole_to}
use Rattle.protocol.specs.Ends.{Limits, rank, is_open, Answer, say, give_count, put}
use Rattle.protocol.specs.Sending as sending
use Rattle.protocol.specs.Sending.{Sender, advance, acknowledged, ack, sender_step}
use Rattle.protocol.proofs.Small.{yes_no, put_cases, advance_up}
use Rattle.means.specs.Meaning.{limits_of, lying}
use Rattle.means.proofs.Sends.{Holds, Windowed, Sends, not_fresh, state_opened, open_state}
use Rattle.means.proofs.Advances.{moves_to, confirmed_is, advanced_holds, advanced_windowed}

-- ---- one more is acknowledged

module _ (c : Channel) (mem lens : List ℕ) (line : List Segment) (oldest start next : ℕ) (acked : ℕ → Bool) (a : Asked c mem lens)
    (x : Holds c mem lens line oldest) (w : Windowed c oldest start next acked) (d : ℕ) where
  recorded_asked : Asked (recorded c d) mem lens
  recorded_asked =
      let acks = set c.acked (place_at c d) 1 in
      record {
        standing = timers_stand (with_acked c acks) lens (acked_stand c lens a.standing acks) (recorded c d).timers;
        sized = a.sized;
      }

  recorded_holds : Holds (recorded c d) mem lens line oldest
  unfolding lying
  recorded_holds =
      record {
        count = x.count;
        each = x.each;
        whole = x.whole;
        marks = x.marks;
        acks = length-set c.acked (place_at c d) 1 ∙ x.acks;
      }

  recorded_windowed : d < c.window.flight → Windowed (recorded c d) oldest start next (put acked (start + d) true)
  recorded_windowed h =
      let n = counted_is c.limits c.window a.standing.ring a.standing.flight in
      let f = fit_is c.limits a.standing.fit in
      let slots = c.limits.slots in
      let acks = set c.acked (place_at c d) 1 in
      let inside : place_at c d < slots = round_lt slots (c.window.place + d) (omega (arith, n.place, n.flight, n.held)) in
      record {
        number = w.number;
        behind = w.behind;
        flight = w.flight;
        noted = λ j l.
            ⊎_elim
            (λ p.
            let e : j ≡ d = omega (arith, p.0) in
            ap (λ (i : ℕ). eqb (get_or acks (place_at c i) 0) 0) e
            ∙ ap (λ (m : ℕ). eqb m 0) (get_or-set_same c.acked (place_at c d) 1 0 (omega (arith, x.acks, f.most)))
            ∙ ap not (sym p.1))
            (λ p.
            ap (λ (m : ℕ). eqb m 0)
            (get_or-set_other c.acked (place_at c d) (place_at c j) 1 0 (λ e.
            p.0 (ap (λ (i : ℕ). start + i)
            (round_apart slots c.window.place j d n.place (omega (arith, n.held)) (omega (arith, n.flight, n.held)) e))))
            ∙ w.noted j l
            ∙ ap not (sym p.1))
            (put_cases acked (start + d) true (start + j));
        sent = λ i t.
            ⊎_elim
            (λ p. omega (arith, p.0, w.flight))
            (λ p. w.sent i (sym p.1 ∙ t))
            (put_cases acked (start + d) true i);
      }

-- ---- which numbers are awaited

none_of : (b t : Bool) → (b && false && t) ≡ false
none_of true t = refl
none_of false t = refl

all_of : (b t u : Bool) → b ≡ true → t ≡ true → (b && t && u) ≡ u
all_of b t u p q = simp (p, q)

-- ---- the move of the start is at most the window

advance_most : (m : ℕ) (f : ℕ → Bool) (i : ℕ) → advance m f i ≤ i + m
advance_most zero f i = omega arith
advance_most (suc m) f i =
    elim (f i) as (λ b. (if b then advance m f (suc i) else i) ≤ i + suc m) [
      | true ↦ let h = advance_most m f (suc i) in omega arith
      | false ↦ omega arith
    ]

module _ (c : Channel) (mem lens : List ℕ) (s : Sender) (a : Asked c mem lens) (d : c.addresses.direction ≡ sends) (r : Sends c mem lens s)
    (number i : ℕ) where
  abbrev L : Limits
  L = limits_of c.limits

  -- how far the number lies from the start, as the record sees it
  abbrev away : ℕ
  away = away_of c number

  away_is : c.window.start ≡ number_at s.start → distance number (number_at s.start) ≡ away
  unfolding distance
  away_is e = ap (distance number) (sym e)

  module _ (o : is_open s.phase ≡ true) where
    in_open : c.phase.state ≡ record_of.opened
    in_open = r.state ∙ open_state s.phase o

    second : rank s.phase ≡ 2
    second = ap rank (state_opened s.phase (open_state s.phase o))

    holds : Holds c mem lens s.line s.oldest
    holds = let z = second in r.held (omega arith)

    windowed : Windowed c s.oldest s.start s.next s.acked
    windowed = let z = second in r.window (omega arith) (omega arith)

    awaited_is : is_awaited c away ≡ sending.is_awaited L s away
    awaited_is =
        let n = counted_is c.limits c.window a.standing.ring a.standing.flight in
        let w = windowed in
        ⊎_elim
        (λ l.
        sent_awaited c away l
        ∙ w.noted away (omega (arith, n.flight))
        ∙ sym (all_of (ltb away c.limits.window) (ltb (s.start + away) s.next) (not (s.acked (s.start + away)))
        (lt-ltb away c.limits.window (omega (arith, n.window)))
        (lt-ltb (s.start + away) s.next (omega (arith, w.flight)))))
        (λ l.
        not_sent c away l
        ∙ sym (ap (λ (b : Bool). ltb away c.limits.window && b && not (s.acked (s.start + away)))
        (le-ltb (s.start + away) s.next (omega (arith, w.flight)))
        ∙ none_of (ltb away c.limits.window) (not (s.acked (s.start + away)))))
        (lt_cases away c.window.flight)

  -- the step of the record is this of the protocol
  abbrev Same : Sender × Answer → Type 0
  Same y =
      Sends (data_ack_step c number).channel mem lens y.0
      × (number_of (data_ack_step c number).answer ≡ y.1.number)
      × (confirmed_of (data_ack_step c number).answer ≡ y.1.count)

  refused : (why : Refusal) → data_ack_step c number ≡ refusing c why → Same (s, say (refusal_number why))
  refused why e = (
    subst (λ (k : Stepped). Sends k.channel mem lens s) (sym e) r,
    ap (λ (k : Stepped). number_of k.answer) e,
    ap (λ (k : Stepped). confirmed_of k.answer) e,
  )

  -- acknowledged, the start at `to`, past n
  abbrev moved_to : ℕ → ℕ → Sender × Answer
  moved_to to n =
      let gone = take n (drop s.start s.line) in (
        record {
          phase = s.phase;
          line = s.line;
          oldest = whole_to s.oldest s.start gone;
          start = to;
          next = s.next;
          acked = put s.acked (s.start + away) true;
        },
        give_count (endings gone),
      )

  same_state : (k : Channel) → (advanced k).phase.state ≡ k.phase.state
  unfolding advanced
  same_state k = refl

  noted : is_open s.phase ≡ true → is_awaited c away ≡ true → Same (acknowledged L true true s (s.start + away))
  noted o t =
      let k = recorded c away in
      let f = put s.acked (s.start + away) true in
      let e = data_ack_done c number (in_open o) t in
      let z = second o in
      let a₁ = recorded_asked c mem lens s.line s.oldest s.start s.next s.acked a (holds o) (windowed o) away in
      let x = recorded_holds c mem lens s.line s.oldest s.start s.next s.acked a (holds o) (windowed o) away in
      let w = recorded_windowed c mem lens s.line s.oldest s.start s.next s.acked a (holds o) (windowed o) away (awaited_sent c away t) in
      let to = moves_to k mem lens s.line s.oldest s.start s.next f a₁ x w in
      let far : advance c.limits.window f s.start - s.start ≡ run_at k = omega (arith, to) in
      subst₂ (λ (p n : ℕ). Same (moved_to p n)) (sym to) (sym far) (
        subst (λ (y : Stepped). Sends y.channel mem lens (moved_to (s.start + run_at k) (run_at k)).0) (sym e)
            (record {
              state = same_state k ∙ r.state;
              before = λ y. absurd (not_fresh s.phase (omega arith) y);
              held = λ _. advanced_holds k mem lens s.line s.oldest s.start s.next f a₁ x w;
              window = λ _ _. advanced_windowed k mem lens s.line s.oldest s.start s.next f a₁ x w;
            }),
        ap (λ (y : Stepped). number_of y.answer) e,
        ap (λ (y : Stepped). confirmed_of y.answer) e ∙ confirmed_is k mem lens s.line s.oldest s.start s.next f a₁ x w,
      )

  by_awaited : is_open s.phase ≡ true → (t : Bool) → is_awaited c away ≡ t → Same (acknowledged L true t s (s.start + away))
  by_awaited o false e = refused refusal.Ignored (data_ack_ignored c number (in_open o) e)
  by_awaited o true e = noted o e

  by_open : (o : Bool) → is_open s.phase ≡ o
      → Same (acknowledged L o (sending.is_awaited L s (distance number (number_at s.start))) s (s.start + distance number (number_at s.start)))
  by_open false o =
      refused refusal.State (data_ack_state c number (λ e. yes_no (ap is_open (state_opened s.phase (sym r.state ∙ e))) o))
  by_open true o =
      subst (λ (k : ℕ). Same (acknowledged L true (sending.is_awaited L s k) s (s.start + k))) (sym (away_is (windowed o).number))
      (by_awaited o (sending.is_awaited L s away) (awaited_is o))

  pub ack_sends : Sends (data_ack_step c number).channel mem lens (sender_step (limits_of c.limits) s (ack i number)).0
      × (number_of (data_ack_step c number).answer ≡ (sender_step (limits_of c.limits) s (ack i number)).1.number)
      × (confirmed_of (data_ack_step c number).answer ≡ (sender_step (limits_of c.limits) s (ack i number)).1.count)
  ack_sends = by_open (is_open s.phase) refl

  -- the start moves on, and by no more than the most for a window
  near : (o t : Bool) (k : ℕ) → (s.start ≤ (acknowledged L o t s k).0.start) × ((acknowledged L o t s k).0.start ≤ s.start + 128)
  near false t k = (le_refl s.start, omega arith)
  near true false k = (le_refl s.start, omega arith)
  near true true k =
      let f = fit_is c.limits a.standing.fit in
      let g : ℕ → Bool = put s.acked k true in (
        advance_up c.limits.window g s.start,
        omega (arith, advance_most c.limits.window g s.start, f.window),
      )

  pub ack_near : (s.start ≤ (sender_step (limits_of c.limits) s (ack i number)).0.start)
      × ((sender_step (limits_of c.limits) s (ack i number)).0.start ≤ s.start + 128)
  ack_near =
      let k = distance number (number_at s.start) in
      near (is_open s.phase) (sending.is_awaited L s k) (s.start + k)
