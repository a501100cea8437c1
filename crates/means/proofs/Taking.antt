-- Taking a unit from a receiving record takes the same unit from the protocol's receiver.
-- Assumes nothing.
use mathlib.Core.Path.{◌≡◌, refl, sym, ap, ◌∙◌, subst}
use mathlib.Core.Bool.{Bool, true, false}
use mathlib.Core.List.{List, [], ◌∷◌}
use mathlib.Core.Option.{Option, none, some}
use Prim.Native.Nat.{ℕ, zero, suc, ◌+◌, ◌-◌, ◌≤◌, ◌<◌}
use native.Mathlib.Omega.{arith}
use borrow.Author.Tests.{ltb-true, ltb-false, eqb-true, eqb-false}
use lib.Dec.{ltb, eqb}
use lib.ListN.{length, take, drop, get_or, length-drop}
use lib.Seq.{length-take-le, get_or-take, get_or-drop}
use Rattle.slots.specs.Ring.{round_of, back_of}
use Rattle.slots.proofs.RingLaws.{back_lt, forth_back, round_lt, round_add, cleared_in, cleared_out, cleared_length}
use Rattle.channel.specs.Places.{slot_of}
use Rattle.channel.proofs.PlaceLaws.{slotted}
use Rattle.store.specs.Store.{unit_of, octets_in}
use Rattle.store.proofs.Laws.{octets_length}
use Rattle.channel.specs.declared.record.Channel.{Channel}
use Rattle.channel.specs.declared.step.Stepped.{Stepped}
use Rattle.channel.specs.Record.{receives}
use Rattle.channel.specs.Standing.{oldest_of}
use Rattle.channel.specs.Answers.{number_of}
use Rattle.channel.specs.Asked.{Asked}
use Rattle.receiver_data.specs.Taking as spec
use Rattle.receiver_data.specs.Taking.{complete_in, unit_at, size_at, dropped, take_step}
use Rattle.receiver_data.proofs.TakeLaws.{each_fits, take_nothing, take_small, take_done, unit_behind}
use Rattle.ends.proofs.Rings.{back_on}
use Rattle.protocol.specs.Units.{DataUnit, Segment, blank, whole_to, first_unit}
use Rattle.protocol.specs.Ends.{rank, Answer}
use Rattle.protocol.specs.Receiving as receiver
use Rattle.protocol.specs.Receiving.{Receiver, ReceiverCall, waiting, receiver_step}
use Rattle.means.specs.Meaning.{limits_of, lying}
use Rattle.means.proofs.Runs.{Lies, First, run_first}
use Rattle.means.proofs.Wholes.{whole_fits, whole_units, whole_first, whole_some}
use Rattle.means.proofs.Lying.{lying_none, lying_same}
use Rattle.means.proofs.Receives.{Within, Whole, After, Receives, lying_at}
use Rattle.means.proofs.Pulses.{pulse_receives}
use Rattle.means.proofs.Leaving.{Turned, receives_whole}
use Rattle.means.proofs.ReceiverControl.{turned}

-- ---- the segments of complete units lie one after another

module _ (c : Channel) (mem lens : List ℕ) (base : ℕ) (l : List Segment) (t : Turned c.limits.slots c.window) (w : Whole c mem lens base l) where
  pub complete_to : complete_in c.window + base ≡ whole_to 0 0 l
  complete_to = omega (arith, w.complete, t.way)

  pub complete_length : length (take (complete_in c.window) (drop base l)) ≡ complete_in c.window
  complete_length =
      length-take-le (complete_in c.window) (drop base l)
      (omega (arith, length-drop base l, whole_fits l base (complete_in c.window) complete_to))

  pub complete_lies : Lies c mem lens (oldest_of c.limits.slots c.window) (take (complete_in c.window) (drop base l))
  complete_lies j h =
      let less : j < complete_in c.window = omega (arith, complete_length) in
      w.view j (omega (arith, t.way))
      ∙ ap some (sym (get_or-take (complete_in c.window) (drop base l) j blank less ∙ get_or-drop base l j blank))

-- ---- the oldest n segments are gone: the others lie where they lay, and where those lay there is none

module _ (c : Channel) (mem lens : List ℕ) (t : Turned c.limits.slots c.window) (n : ℕ) (one : 1 ≤ n) (few : n ≤ c.window.behind) where
  abbrev slots : ℕ
  slots = c.limits.slots

  abbrev from : ℕ
  from = oldest_of slots c.window

  low : from < slots
  low = back_lt slots c.window.place c.window.behind t.place

  next : back_of slots c.window.place (c.window.behind - n) ≡ round_of slots (from + n)
  next = sym (back_on slots c.window.place c.window.behind n t.place t.behind few one)

  dropped_stay : (j : ℕ) → n + j < slots → lying_at (dropped c n) mem lens j ≡ lying_at c mem lens (n + j)
  dropped_stay j h =
      let there : round_of slots (back_of slots c.window.place (c.window.behind - n) + j) ≡ round_of slots (from + (n + j))
      = ap (λ (k : ℕ). round_of slots (k + j)) next ∙ round_add slots from n j (omega (arith, low))
      in
      ap (lying (dropped c n) mem lens) there
      ∙ lying_same c (dropped c n) mem lens mem lens (round_of slots (from + (n + j)))
      (cleared_out c.marks slots n from (n + j) low h (omega arith))
      (λ _. refl)

  dropped_gone : (j : ℕ) → j < slots → slots ≤ n + j → lying_at (dropped c n) mem lens j ≡ none
  unfolding back_of
  dropped_gone j h over =
      let i = n + j - slots in
      let sum : slots - n + i ≡ j = omega (arith, t.behind) in
      let after : ℕ = round_of slots (from + n) in
      let on : after < slots = round_lt slots (from + n) (omega (arith, low, t.behind)) in
      let turn : round_of slots (after + (slots - n)) ≡ from = forth_back slots from n low (omega (arith, t.behind)) in
      let there : round_of slots (back_of slots c.window.place (c.window.behind - n) + j) ≡ round_of slots (from + i)
      = ap (λ (k : ℕ). round_of slots (k + j)) next
      ∙ ap (λ (k : ℕ). round_of slots (after + k)) (sym sum)
      ∙ sym (round_add slots after (slots - n) i (omega (arith, on)))
      ∙ ap (λ (k : ℕ). round_of slots (k + i)) turn
      in
      ap (lying (dropped c n) mem lens) there
      ∙ lying_none (dropped c n) mem lens (round_of slots (from + i)) (cleared_in c.marks slots n from i low (omega arith) (omega arith))

  dropped_within : (base : ℕ) (l : List Segment) (f : ℕ → Option Segment) → Within c mem lens base l f → Within (dropped c n) mem lens (base + n) l f
  dropped_within base l f w =
      record {
        start = w.start;
        behind = omega (arith, w.behind);
        way = w.way;
        view = λ j h. by j h (ltb (n + j) slots) refl;
        room = λ i g e. omega (arith, w.room i g e);
        near = w.near;
        known = w.known;
        count = cleared_length c.marks slots n from ∙ w.count;
      }
    where
      past : (i : ℕ) → base + slots ≤ i → (o : Option Segment) → f i ≡ o → f i ≡ none
      past i h none e = e
      past i h (some g) e = absurd (omega (arith, w.room i g e))

      by : (j : ℕ) → j < slots → (b : Bool) → ltb (n + j) slots ≡ b → lying_at (dropped c n) mem lens j ≡ f (base + n + j)
      by j h true e =
          let less : n + j < slots = ltb-true (n + j) slots e in
          let sum : base + (n + j) ≡ base + n + j = omega arith in
          dropped_stay j less ∙ w.view (n + j) less ∙ ap f sum
      by j h false e =
          let over : slots ≤ n + j = ltb-false (n + j) slots e in
          dropped_gone j h over ∙ sym (past (base + n + j) (omega arith) (f (base + n + j)) refl)

  dropped_after : (base : ℕ) (l : List Segment) → After c mem lens base l → After (dropped c n) mem lens (base + n) l
  dropped_after base l a =
      record {
        whole =
            record {
              complete = omega (arith, a.whole.complete);
              view = λ j h.
                  let sum : base + (n + j) ≡ base + n + j = omega arith in
                  dropped_stay j (omega (arith, t.behind))
                  ∙ a.whole.view (n + j) (omega arith)
                  ∙ ap (λ (i : ℕ). some (get_or l i blank)) sum;
            };
        way = a.way;
      }

-- ---- a unit taken

module _ (c : Channel) (mem lens : List ℕ) (r : Receiver) (asked : Asked c mem lens) (receiving : c.addresses.direction ≡ receives) (t : Receives c mem lens r) where
  ring : Turned c.limits.slots c.window
  ring = turned c mem lens asked receiving

  abbrev start : ℕ
  start = oldest_of c.limits.slots c.window

  abbrev taken : List ℕ
  taken = octets_in (slot_of c) c.limits.payload mem lens c.limits.slots (unit_at c) start

  -- what is shown of the channel afterwards, and of what the protocol's receiver gives
  abbrev Took : Channel → Receiver × Answer → Type 0
  Took k a = (Receives k mem lens a.0) × (a.1.number ≡ 0) × (a.1.unit ≡ taken) × (size_at c lens ≡ length a.1.unit)

  size_is : size_at c lens ≡ length taken
  size_is =
      let low : start < c.limits.slots = back_lt c.limits.slots c.window.place c.window.behind ring.place in
      sym
      (octets_length (slot_of c) c.limits.slots c.limits.payload mem lens c.limits.slots (unit_at c) start
      (slotted c.limits) asked.sized low (omega (arith, unit_behind c, ring.behind))
      (each_fits c lens (unit_at c) asked.standing (omega (arith, unit_behind c))))

  -- a record with something complete was opened
  opened_once : (complete_in c.window ≡ 0 → ⊥) → 1 ≤ rank r.phase
  opened_once more = by (rank r.phase) refl
    where
      by : (n : ℕ) → rank r.phase ≡ n → 1 ≤ rank r.phase
      by zero e = absurd (more (omega (arith, (t.before e).held)))
      by (suc n) e = omega arith

  module _ (more : complete_in c.window ≡ 0 → ⊥) where
    was : 1 ≤ rank r.phase
    was = opened_once more

    whole : Whole c mem lens r.oldest r.passed
    whole = receives_whole c mem lens r ring t was

    abbrev part : List Segment
    part = take (complete_in c.window) (drop r.oldest r.passed)

    upto : complete_in c.window + r.oldest ≡ whole_to 0 0 r.passed
    upto = complete_to c mem lens r.oldest r.passed ring whole

    long : length part ≡ complete_in c.window
    long = complete_length c mem lens r.oldest r.passed ring whole

    first : (u : DataUnit) (us : List DataUnit) → waiting r ≡ u ∷ us → First c mem lens [] part start u
    first u us e =
        run_first c mem lens part [] start u us (back_lt c.limits.slots c.window.place c.window.behind ring.place)
        (omega (arith, long, ring.behind))
        (complete_lies c mem lens r.oldest r.passed ring whole)
        (whole_units r.passed r.oldest (complete_in c.window) upto ∙ e)

    took : (us : List DataUnit) → waiting r ≡ us → Took (dropped c (unit_at c)) (receiver.taking us r)
    took [] e = absurd (whole_some r.passed r.oldest (complete_in c.window) upto (omega arith) e)
    took (u ∷ us) e =
        let one = first u us e in
        let n : ℕ = first_unit (drop r.oldest r.passed) in
        let same : first_unit part ≡ n = whole_first r.passed r.oldest (complete_in c.window) upto in
        let is : unit_at c ≡ first_unit part = ap (λ (k : ℕ). unit_of c.marks c.limits.slots k start) (sym long) ∙ one.count in
        let count : unit_at c ≡ n = is ∙ same in
        let few : n ≤ c.window.behind = omega (arith, unit_behind c, count) in
        let some_n : 1 ≤ n = omega (arith, one.some, same) in
        let unit : u ≡ taken
        = sym one.octets ∙ ap (λ (k : ℕ). octets_in (slot_of c) c.limits.payload mem lens c.limits.slots k start) (sym is)
        in (
          subst (λ (k : ℕ). Receives (dropped c k) mem lens (receiver.taking (u ∷ us) r).0) (sym count)
              (record {
                state = t.state;
                before = λ z. absurd (omega (arith, was));
                within = λ p q. dropped_within c mem lens ring n some_n few r.oldest r.passed r.filed (t.within p q);
                after = λ p. dropped_after c mem lens ring n some_n few r.oldest r.passed (t.after p);
              }),
          refl,
          unit,
          size_is ∙ ap length (sym unit),
        )

  pub take_receives : (n : ℕ) → number_of (take_step c lens n).answer ≡ 0
      → (Receives (take_step c lens n).channel mem lens (receiver_step (limits_of c.limits) r ReceiverCall.take_unit).0)
      × ((receiver_step (limits_of c.limits) r ReceiverCall.take_unit).1.number ≡ 0)
      × ((receiver_step (limits_of c.limits) r ReceiverCall.take_unit).1.unit
      ≡ octets_in (slot_of c) c.limits.payload mem lens c.limits.slots (unit_at c) (oldest_of c.limits.slots c.window))
      × (size_at c lens ≡ length (receiver_step (limits_of c.limits) r ReceiverCall.take_unit).1.unit)
  take_receives n done = by (eqb (complete_in c.window) 0) refl (ltb n (size_at c lens)) refl
    where
      answer_is : (s : Stepped) → take_step c lens n ≡ s → number_of s.answer ≡ 0
      answer_is s e = sym (ap (λ (x : Stepped). number_of x.answer) e) ∙ done

      by : (b : Bool) → eqb (complete_in c.window) 0 ≡ b → (u : Bool) → ltb n (size_at c lens) ≡ u
          → Took (take_step c lens n).channel (receiver.taking (waiting r) r)
      by true e u z = absurd (omega (arith, answer_is _ (take_nothing c lens n (eqb-true _ _ e))))
      by false e true z = absurd (omega (arith, answer_is _ (take_small c lens n (eqb-false _ _ e) (ltb-true _ _ z))))
      by false e false z =
          subst (λ (s : Stepped). Took s.channel (receiver.taking (waiting r) r)) (sym (take_done c lens n (eqb-false _ _ e) (ltb-false _ _ z)))
          (let w = took (eqb-false _ _ e) (waiting r) refl in (pulse_receives (dropped c (unit_at c)) mem lens _ (spec.taken c (unit_at c)).pulse w.0, w.1, w.2, w.3))
