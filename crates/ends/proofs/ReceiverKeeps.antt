-- Each step keeps the standing condition, and an arrival keeps the memory's size.
-- Assumes nothing.
use mathlib.Core.Path.{◌≡◌, refl, sym, ap, ◌∙◌}
use mathlib.Core.Logic.{⊎_elim}
use mathlib.Core.Bool.{Bool, true, false, not, ◌||◌}
use mathlib.Core.List.{List}
use Prim.Native.Nat.{ℕ, ◌+◌, ◌-◌, ◌*◌, ◌≤◌, ◌<◌}
use native.Mathlib.Nat.{pos_of_ne-zero}
use native.Mathlib.Omega.{arith}
use borrow.Author.Tests.{le-leb, le-ltb, ltb-true, eqb-true, eqb-false, ne_eqb}
use lib.Dec.{ltb, eqb}
use lib.ListN.{length, get_or, set, take, drop, length-set}
use lib.Seq.{get_or-set_same, get_or-set_other}
use Rattle.std.specs.Prelude.{if◌then◌else◌}
use Rattle.laws.proofs.Choice.{both}
use Rattle.laws.proofs.Numbers.{lt_cases}
use Rattle.slots.specs.Ring.{round_of, back_of, cleared}
use Rattle.slots.proofs.RingLaws.{round_lt, round_add, back_lt, back_forth, set_here, cleared_either, cleared_out}
use Rattle.slots.specs.Marks.{mark_of, begins, ends}
use Rattle.slots.specs.Slots.{Sized}
use Rattle.channel.specs.Places.{slot_in, slot_of}
use Rattle.slots.proofs.SlotLaws.{filed_sized, slot_other}
use Rattle.channel.proofs.PlaceLaws.{slot_bound, slot_apart}
use Rattle.store.proofs.Laws.{unit_some}
use Rattle.channel.specs.declared.record.Limits.{Limits}
use Rattle.channel.specs.declared.record.Window.{Window}
use Rattle.channel.specs.declared.record.Timers.{Timers}
use Rattle.channel.specs.declared.record.Channel.{Channel}
use Rattle.channel.specs.declared.step.Stepped.{Stepped}
use Rattle.channel.specs.Record.{receives, enabled, opened, retries_out, unanswered, fresh_phase, no_lone, with_state, with_window, with_timers}
use Rattle.channel.specs.Pulse.{started_pulse}
use Rattle.channel.specs.Standing.{rested, slot_fit, Standing, oldest_of}
use Rattle.channel.proofs.SettingsLaws.{fit_is}
use Rattle.channel.proofs.StandingLaws.{named_is, asking_receives, open_rests, rests, rested_is, rested_on}
use Rattle.channel.proofs.MadeLaws.{free_fits, enabled_stands}
use Rattle.receiver_data.specs.Sorting.{place_at}
use Rattle.receiver_data.specs.Moving.{fitting, way_after, passed, moved_of}
use Rattle.receiver.specs.Receiving.{leaving, shut_for, with_closing, open_step, control_step, tick_step}
use Rattle.receiver_data.specs.Data.{marking, accept_step, away_of, place_of, data_step, data_mem, data_lens}
use Rattle.receiver_data.specs.Taking.{complete_in, unit_at, dropped, take_step}
use Rattle.receiver_data.proofs.MoveLaws.{move_keeps, way_le}
use Rattle.receiver_data.proofs.TakeLaws.{unit_behind}
use Rattle.ends.proofs.KeepsPulse.{pulse_keeps}
use Rattle.channel.proofs.PulseLaws.{fallen_small, beaten_sane}
use Rattle.channel.proofs.FlowLaws.{telling_sane}
use Rattle.ends.proofs.Rings.{back_back, back_next, back_on, back_then, set_some}
use Rattle.ends.proofs.Receivers.{Kept, Marked, Fitting, Receives, receives_is, receives_stands}
use Rattle.ends.proofs.ReceiverCases.{open_cases, control_cases, take_cases, ticked_pulse, tick_cases, data_cases, accept_cases}

-- ---- slots: one with few octets fits

few_fit : (most flags len : ℕ) → flags < 4 → len ≤ most → slot_fit false most (mark_of flags) len ≡ true
unfolding slot_fit
few_fit most flags len f l = simp (ne_eqb (flags + 1) 0 (λ z. omega arith), le-ltb 4 (flags + 1) (omega arith), le-leb len most l)

cleared_fits : (l : Limits) (marks lens : List ℕ) (n from : ℕ) → Fitting l marks lens → Fitting l (cleared marks l.slots n from) lens
cleared_fits l marks lens n from f i less =
    ⊎_elim
    (λ z. ap (λ (k : ℕ). slot_fit false l.payload k (get_or lens (slot_in l i) 0)) z ∙ free_fits false l.payload (get_or lens (slot_in l i) 0))
    (λ e. ap (λ (k : ℕ). slot_fit false l.payload k (get_or lens (slot_in l i) 0)) e ∙ f i less)
    (cleared_either marks l.slots n from i)

filed_fits : (l : Limits) (marks lens : List ℕ) (place flags n : ℕ) → length lens ≡ l.slots → place < l.slots → flags < 4 → n ≤ l.payload
    → Fitting l marks lens → Fitting l (set marks place (mark_of flags)) (set lens (slot_in l place) n)
filed_fits l marks lens place flags n count on small few f i less = at (eqb i place) refl
  where
    here : slot_fit false l.payload (get_or (set marks place (mark_of flags)) place 0) (get_or (set lens (slot_in l place) n) (slot_in l place) 0) ≡ true
    here =
        ap (slot_fit false l.payload (get_or (set marks place (mark_of flags)) place 0))
        (get_or-set_same lens (slot_in l place) n 0 (omega (arith, slot_bound l place on)))
        ∙ ⊎_elim
        (λ v. ap (λ (k : ℕ). slot_fit false l.payload k n) v ∙ few_fit l.payload flags n small few)
        (λ z. ap (λ (k : ℕ). slot_fit false l.payload k n) z ∙ free_fits false l.payload n)
        (set_here marks place (mark_of flags))

    at : (t : Bool) → eqb i place ≡ t
        → slot_fit false l.payload (get_or (set marks place (mark_of flags)) i 0) (get_or (set lens (slot_in l place) n) (slot_in l i) 0) ≡ true
    at true e =
        ap (λ (j : ℕ). slot_fit false l.payload (get_or (set marks place (mark_of flags)) j 0) (get_or (set lens (slot_in l place) n) (slot_in l j) 0)) (eqb-true _ _ e)
        ∙ here
    at false e =
        let d = eqb-false i place e in
        ap (λ (k : ℕ). slot_fit false l.payload k (get_or (set lens (slot_in l place) n) (slot_in l i) 0)) (get_or-set_other marks place i (mark_of flags) 0 d)
        ∙ ap (slot_fit false l.payload (get_or marks i 0)) (get_or-set_other lens (slot_in l place) (slot_in l i) n 0 (λ same. d (slot_apart l i place same)))
        ∙ f i less

-- ---- leaving OPEN

leaving_receives : (c : Channel) (lens : List ℕ) (state ticks : ℕ) → state ≤ 3 → Receives c lens → Receives (leaving c state ticks) lens
unfolding leaving
leaving_receives c lens state ticks small r =
    let slots = c.limits.slots in
    let w = c.window in
    let k = r.window in
    let f = back_of slots w.place w.way in
    let kept = w.behind - w.way in
    let on : f < slots = back_lt slots w.place w.way k.place in
    let t = fit_is c.limits r.fit in
    let sum : w.way + kept ≡ w.behind = omega arith in
    let oldest : back_of slots f kept ≡ back_of slots w.place w.behind = back_back slots w.place w.way kept k.place (omega arith) ∙ ap (back_of slots w.place) sum in
    record {
      fit = r.fit;
      count = r.count;
      direction = r.direction;
      small = record { addresses = r.small.addresses; state = small; reason = r.small.reason; kept = r.small.kept; accepted = r.small.accepted; control = r.small.control; pulse = record { beat = omega arith; flow = omega arith } };
      window = record { place = on; behind = omega arith; ahead = k.ahead; flight = k.flight; way = omega arith; unit = omega arith };
      rested = rests c.addresses.direction (leaving c state ticks).phase (leaving c state ticks).window refl refl (asking_receives c.addresses.direction (leaving c state ticks).phase r.direction);
      held = λ i less e.
          let there = back_then slots f kept i on (omega arith) less in
          r.held i (omega arith)
          (ap (λ (j : ℕ). get_or c.marks (round_of slots (j + i)) 0) (sym oldest)
          ∙ ap (λ (j : ℕ). get_or c.marks j 0) there
          ∙ sym (cleared_out c.marks slots (slots - kept) f (slots - kept + i) on (omega arith) (omega arith))
          ∙ ap (λ (j : ℕ). get_or (cleared c.marks slots (slots - kept) f) j 0) (sym there)
          ∙ e);
      slots = cleared_fits c.limits c.marks lens (slots - kept) f r.slots;
    }

shut_receives : (c : Channel) (lens : List ℕ) (why : ℕ) → why ≤ 6 → Receives c lens → Receives (shut_for c why) lens
shut_receives c lens why small r =
    let q = leaving_receives c lens 0 0 (omega arith) r in
    let s = q.small in
    record {
      fit = q.fit;
      count = q.count;
      direction = q.direction;
      small = record { addresses = s.addresses; state = s.state; reason = small; kept = s.kept; accepted = s.accepted; control = s.control; pulse = s.pulse };
      window = q.window;
      rested = rested_on (leaving c 0 0).addresses.direction (leaving c 0 0).phase (shut_for c why).phase refl (λ x. x) (leaving c 0 0).window (leaving c 0 0).window refl refl q.rested;
      held = q.held;
      slots = q.slots;
    }

state_receives : (c : Channel) (lens : List ℕ) (state : ℕ) → state ≤ 3 → rested c.addresses.direction (with_state c state).phase c.window ≡ true
    → Receives c lens → Receives (with_state c state) lens
state_receives c lens state small rest r =
    let s = r.small in
    record {
      fit = r.fit;
      count = r.count;
      direction = r.direction;
      small = record { addresses = s.addresses; state = small; reason = s.reason; kept = s.kept; accepted = s.accepted; control = s.control; pulse = s.pulse };
      window = r.window;
      rested = rest;
      held = r.held;
      slots = r.slots;
    }

-- ---- the move

fitting_way : (most way mark : ℕ) → 1 ≤ most → fitting most way mark ≡ true → way_after way mark < most
unfolding fitting
fitting_way most way mark some e = by (ends mark) (both (if eqb way 0 then begins mark else not (begins mark)) _ e).1
  where
    by : (t : Bool) → (t || ltb (way + 1) most) ≡ true → (if t then 0 else way + 1) < most
    by true f = omega arith
    by false f = ltb-true (way + 1) most f

module _ (l : Limits) (marks : List ℕ) (v : Window) (less : v.behind < l.slots) (here : get_or marks v.place 0 ≡ 0 → ⊥) (k : Kept l v) where
  pass_kept : 1 ≤ l.segments → fitting l.segments v.way (get_or marks v.place 0) ≡ true → Kept l (passed l.slots v (get_or marks v.place 0))
  pass_kept some fits =
      record {
        place = round_lt l.slots (v.place + 1) (omega arith);
        behind = omega arith;
        ahead = k.ahead;
        flight = k.flight;
        way = omega (arith, way_le v.way (get_or marks v.place 0));
        unit = fitting_way l.segments v.way (get_or marks v.place 0) some fits;
      }

  -- the segment passed is the last of those kept
  pass_marked : Marked l.slots v marks → Marked l.slots (passed l.slots v (get_or marks v.place 0)) marks
  pass_marked m i low e =
      let slots = l.slots in
      let from = back_of slots v.place v.behind in
      let e2 : get_or marks (round_of slots (from + i)) 0 ≡ 0 =
      ap (λ (j : ℕ). get_or marks (round_of slots (j + i)) 0) (sym (back_next slots v.place v.behind k.place less)) ∙ e in
      ⊎_elim
      (λ b. m i b e2)
      (λ b.
      let last : v.behind ≡ i = omega arith in
      here
      (ap (λ (j : ℕ). get_or marks j 0) (sym (back_forth slots v.place v.behind k.place (omega arith)))
      ∙ ap (λ (j : ℕ). get_or marks (round_of slots (from + j)) 0) last
      ∙ e2))
      (lt_cases i v.behind)

moved_kept : (l : Limits) (marks : List ℕ) (w : Window) → 1 ≤ l.segments → Kept l w → Marked l.slots w marks
    → (Kept l (moved_of l marks w).window) × (Marked l.slots (moved_of l marks w).window marks)
moved_kept l marks w some k m =
    move_keeps l.slots l.segments marks (λ (v : Window). (Kept l v) × (Marked l.slots v marks))
    (λ v less here fits q. (pass_kept l marks v less here q.0 some fits, pass_marked l marks v less here q.0 q.1))
    (l.slots - w.behind) w (omega arith) (k, m)

-- ---- a segment filed at a place, marked, and the start moved

marking_receives : (c : Channel) (lens : List ℕ) (place flags n : ℕ) → place < c.limits.slots → flags < 4 → n ≤ c.limits.payload → Receives c lens
    → Receives (marking c place flags) (set lens (slot_of c place) n)
marking_receives c lens place flags n on few short r =
    let s = r.small in
    record {
      fit = r.fit;
      count = length-set lens (slot_of c place) n ∙ r.count;
      direction = r.direction;
      small = record { addresses = s.addresses; state = s.state; reason = s.reason; kept = s.kept; accepted = omega arith; control = s.control; pulse = s.pulse };
      window = r.window;
      rested = rested_on c.addresses.direction c.phase (marking c place flags).phase refl (λ x. x) c.window c.window refl refl r.rested;
      held = λ i less. set_some c.marks place (round_of c.limits.slots (back_of c.limits.slots c.window.place c.window.behind + i)) (flags + 1) (r.held i less) (λ z. omega arith);
      slots = filed_fits c.limits c.marks lens place flags n r.count on few short r.slots;
    }

moving_receives : (c : Channel) (lens : List ℕ) → c.phase.state ≡ opened → Receives c lens → Receives (with_window c (moved_of c.limits c.marks c.window).window) lens
moving_receives c lens o r =
    let t = fit_is c.limits r.fit in
    let m = moved_kept c.limits c.marks c.window t.segment r.window r.held in
    record {
      fit = r.fit;
      count = r.count;
      direction = r.direction;
      small = record { addresses = r.small.addresses; state = r.small.state; reason = r.small.reason; kept = r.small.kept; accepted = r.small.accepted; control = r.small.control; pulse = r.small.pulse };
      window = m.0;
      rested = open_rests c.addresses.direction c.phase (moved_of c.limits c.marks c.window).window o;
      held = m.1;
      slots = r.slots;
    }

-- ---- a unit taken

dropped_receives : (c : Channel) (lens : List ℕ) (n : ℕ) → 1 ≤ n → n ≤ c.window.behind - c.window.way → Receives c lens → Receives (dropped c n) lens
dropped_receives c lens n some few r =
    let slots = c.limits.slots in
    let w = c.window in
    let k = r.window in
    let from = oldest_of slots w in
    let on : from < slots = back_lt slots w.place w.behind k.place in
    record {
      fit = r.fit;
      count = r.count;
      direction = r.direction;
      small = record { addresses = r.small.addresses; state = r.small.state; reason = r.small.reason; kept = r.small.kept; accepted = r.small.accepted; control = r.small.control; pulse = r.small.pulse };
      window = record { place = k.place; behind = omega arith; ahead = k.ahead; flight = k.flight; way = omega arith; unit = k.unit };
      rested = rested_on c.addresses.direction c.phase c.phase refl (λ x. x) w (dropped c n).window refl refl r.rested;
      held = λ i less e.
          let there : round_of slots (back_of slots w.place (w.behind - n) + i) ≡ round_of slots (from + (n + i)) =
          ap (λ (j : ℕ). round_of slots (j + i)) (sym (back_on slots w.place w.behind n k.place k.behind (omega arith) some))
          ∙ round_add slots from n i (omega arith) in
          r.held (n + i) (omega arith)
          (sym (cleared_out c.marks slots n from (n + i) on (omega arith) (omega arith))
          ∙ ap (λ (j : ℕ). get_or (cleared c.marks slots n from) j 0) (sym there)
          ∙ e);
      slots = cleared_fits c.limits c.marks lens n from r.slots;
    }

timers_receives : (c : Channel) (lens : List ℕ) (t : Timers) → Receives c lens → Receives (with_timers c t) lens
timers_receives c lens t r =
    let s = r.small in
    record {
      fit = r.fit;
      count = r.count;
      direction = r.direction;
      small = record { addresses = s.addresses; state = s.state; reason = s.reason; kept = s.kept; accepted = s.accepted; control = s.control; pulse = s.pulse };
      window = r.window;
      rested = r.rested;
      held = r.held;
      slots = r.slots;
    }

-- ---- the steps

module _ (c : Channel) (lens : List ℕ) (d : c.addresses.direction ≡ receives) (h : Standing c lens) where
  is : Receives c lens
  is = receives_is c lens d h

  -- an Open directive
  pub opening_stands : Standing (open_step c).channel lens
  opening_stands =
      open_cases c (λ (s : Stepped). Standing s.channel lens) h h
      (enabled_stands c lens no_lone (omega arith) (asking_receives c.addresses.direction (fresh_phase enabled no_lone) d) h)

  shut_stands : (why : ℕ) → why ≤ 6 → Standing (shut_for c why) lens
  shut_stands why small = receives_stands (shut_for c why) lens (shut_receives c lens why small is)

  -- an Open or a Close that arrives
  pub control_stands : (opens : Bool) (number : ℕ) → Standing (control_step c opens number).channel lens
  control_stands opens number =
      control_cases c (λ (s : Stepped). Standing s.channel lens) h h opens number
      (pulse_keeps (with_state c 2) lens (started_pulse c.limits) (omega arith)
      (receives_stands (with_state c 2) lens (state_receives c lens 2 (omega arith) (open_rests c.addresses.direction (with_state c 2).phase c.window refl) is)))
      (receives_stands (leaving c 3 c.limits.closing) lens (leaving_receives c lens 3 c.limits.closing (omega arith) is))
      (shut_stands 2 (omega arith))
      (shut_stands 3 (omega arith))

  -- a segment filed at a place of the ring
  accept_stands : c.phase.state ≡ opened → (place flags n : ℕ) → place < c.limits.slots → flags < 4 → n ≤ c.limits.payload
      → Standing (accept_step c place flags).channel (set lens (slot_of c place) n)
  accept_stands o place flags n on few short =
      let r = moving_receives (marking c place flags) (set lens (slot_of c place) n) o (marking_receives c lens place flags n on few short is) in
      let k = with_window (marking c place flags) (moved_of c.limits (marking c place flags).marks c.window).window in
      accept_cases c place flags (λ (s : Stepped). Standing s.channel (set lens (slot_of c place) n))
      (receives_stands (shut_for k 5) (set lens (slot_of c place) n) (shut_receives k (set lens (slot_of c place) n) 5 (omega arith) r))
      (receives_stands k (set lens (slot_of c place) n) r)

  on_ring : (number : ℕ) → c.window.behind + away_of c number < c.limits.slots → place_at c.limits c.window (away_of c number) < c.limits.slots
  on_ring number room = let k = is.window in round_lt c.limits.slots (c.window.place + away_of c number) (omega arith)

  -- Data that arrives
  module _ (number : ℕ) (p mem : List ℕ) (short : length p ≤ c.limits.payload) where
    pub data_stands : (flags : ℕ) → flags < 4 → Standing (data_step c number flags).channel (data_lens c number p lens)
    data_stands flags few =
        data_cases c number flags p mem lens (λ (s : Stepped) (m l : List ℕ). Standing s.channel l) h h h (shut_stands 4 (omega arith))
        (λ o room. accept_stands o (place_at c.limits c.window (away_of c number)) flags (length p) (on_ring number room) few short)

    -- the memory keeps its size
    pub data_sized : Sized c.limits.slots c.limits.payload mem lens
        → Sized c.limits.slots c.limits.payload (data_mem c number p mem) (data_lens c number p lens)
    data_sized z =
        data_cases c number 0 p mem lens (λ (s : Stepped) (m l : List ℕ). Sized c.limits.slots c.limits.payload m l) z z z z
        (λ o room. filed_sized c.limits.slots c.limits.payload mem lens (slot_of c (place_at c.limits c.window (away_of c number))) p z (slot_bound c.limits (place_at c.limits c.window (away_of c number)) (on_ring number room)) short)

    -- the octets of every slot but the one filed stay
    pub other_slots_stay : Sized c.limits.slots c.limits.payload mem lens
        → (j : ℕ)
        → (j ≡ slot_of c (place_of c number) → ⊥)
        → take c.limits.payload (drop (j * c.limits.payload) (data_mem c number p mem)) ≡ take c.limits.payload (drop (j * c.limits.payload) mem)
    other_slots_stay z j other =
        data_cases c number 0 p mem lens
        (λ (s : Stepped) (m l : List ℕ). take c.limits.payload (drop (j * c.limits.payload) m) ≡ take c.limits.payload (drop (j * c.limits.payload) mem))
        refl
        refl
        refl
        refl
        (λ o room. slot_other c.limits.slots c.limits.payload mem lens (slot_of c (place_at c.limits c.window (away_of c number))) p z (slot_bound c.limits (place_at c.limits c.window (away_of c number)) (on_ring number room)) short j other)

  -- a unit taken
  pub take_stands : (n : ℕ) → Standing (take_step c lens n).channel lens
  take_stands n =
      take_cases c lens n (λ (s : Stepped). Standing s.channel lens) h h
      (λ some.
      let low : 1 ≤ complete_in c.window = pos_of_ne-zero some in
      pulse_keeps (dropped c (unit_at c)) lens _ (telling_sane c.phase.state c.limits c.window (dropped c (unit_at c)).window c.pulse (named_is c h.named).pulse)
      (receives_stands (dropped c (unit_at c)) lens
      (dropped_receives c lens (unit_at c) (unit_some c.marks c.limits.slots (complete_in c.window) (oldest_of c.limits.slots c.window) low) (unit_behind c) is)))

  -- a tick
  pub tick_stands : Standing (tick_step c).channel lens
  tick_stands =
      tick_cases c (λ (k : Channel). Standing k lens) h
      (receives_stands (with_timers c (with_closing c.timers (c.timers.closing - 1))) lens
      (timers_receives c lens (with_closing c.timers (c.timers.closing - 1)) is))
      (λ e.
      let n = rested_is c.addresses.direction c.phase c.window (λ o. omega arith) h.rested in
      receives_stands (with_state (with_timers c (with_closing c.timers 0)) 0) lens
      (state_receives (with_timers c (with_closing c.timers 0)) lens 0 (omega arith)
      (rests c.addresses.direction (with_state c 0).phase c.window n.0 n.1 (asking_receives c.addresses.direction (with_state c 0).phase d))
      (timers_receives c lens (with_closing c.timers 0) is)))
      (λ o. shut_stands retries_out (omega arith))
      (λ o. shut_stands unanswered (omega arith))
      (λ o.
      let n = (named_is c h.named).pulse in
      pulse_keeps c lens (ticked_pulse c)
      (beaten_sane c.limits _ (record { beat = n.beat; flow = fallen_small c.pulse.flow.packet n.flow })) h)
