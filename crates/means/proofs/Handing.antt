-- The hand-out of a packet: a Control packet or a Heartbeat is nothing to the protocol's data, a Data packet carries a segment that it may hand out.
-- Assumes nothing.
use mathlib.Core.Path.{◌≡◌, refl, sym, ap, ◌∙◌, subst}
use mathlib.Core.Bool.{Bool, true, false, not, ◌&&◌}
use mathlib.Core.List.{List}
use mathlib.Core.Logic.{◌⊎◌, ⊎_elim}
use Prim.Native.Nat.{ℕ, zero, suc, ◌+◌, ◌-◌, ◌≤◌, ◌<◌}
use native.Mathlib.Omega.{arith}
use borrow.Author.Tests.{lt-ltb, le-leb, eq-eqb, ne_eqb, eqb-true, eqb-false}
use lib.Dec.{leb, ltb, eqb}
use lib.ListN.{length, get_or, set, length-set}
use lib.Seq.{get_or-set_same, get_or-set_other}
use Rattle.laws.specs.Choice.{if◌then◌else◌}
use Rattle.laws.proofs.Choice.{chosen, passed_by, both, either_way}
use Rattle.slots.specs.Ring.{round_of}
use Rattle.slots.proofs.RingLaws.{round_lt, round_apart, first_place, next_place}
use Rattle.slots.specs.Slots.{segment_in}
use Rattle.channel.specs.Places.{slot_of}
use Rattle.channel.specs.declared.record.Channel.{Channel}
use Rattle.channel.specs.Record.{sends}
use Rattle.channel.specs.Record as record_of
use Rattle.channel.specs.Asked.{Asked}
use Rattle.channel.proofs.SettingsLaws.{fit_is}
use Rattle.channel.proofs.StandingLaws.{counted_is}
use Rattle.sender.specs.Directives.{place_at}
use Rattle.sender_packets.specs.HandingOut.{again_in, again_at, ready, single_out, again_out, new_out, segment_for, next_out}
use Rattle.sender_packets.proofs.HandLaws.{ready_as, ready_open_lem, ready_1_is, ready_2_is}
use Rattle.protocol.specs.Units.{blank}
use Rattle.protocol.specs.Ends as ends_of
use Rattle.protocol.specs.Sending.{Sender, may_hand_out, handed_out}
use Rattle.protocol.proofs.Small.{not_true}
use Rattle.means.specs.Meaning.{limits_of, carried, lying}
use Rattle.means.proofs.Sends.{Holds, Windowed, Sends, not_fresh, state_opened}
use Rattle.means.proofs.Pulses.{pulse_sends}
use Rattle.means.proofs.SenderControl.{changed_sends}
use Rattle.means.proofs.SenderPlaces.{carried_is}

-- the segment that is ready again is not acknowledged
again_unacked : (acked left : List ℕ) (slots n from : ℕ) → from < slots → n ≤ slots → again_in acked left slots n from < n
    → get_or acked (round_of slots (from + again_in acked left slots n from)) 0 ≡ 0
unfolding again_in
again_unacked acked left slots zero from p b h = absurd (omega arith)
again_unacked acked left slots (suc n) from p b h =
    let next = round_of slots (from + 1) in
    let rest = again_in acked left slots n next in
    let go = λ (t : Bool). elim t as
    (λ t. (eqb (get_or acked from 0) 0 && eqb (get_or left from 0) 0) ≡ t → (if t then 0 else suc rest) < suc n
    → get_or acked (round_of slots (from + (if t then 0 else suc rest))) 0 ≡ 0) [
      | true ↦ λ e l.
          ap (λ (k : ℕ). get_or acked k 0) (first_place slots from p) ∙ eqb-true _ _ (both (eqb (get_or acked from 0) 0) _ e).0
      | false ↦ λ e l.
          ap (λ (k : ℕ). get_or acked k 0) (sym (next_place slots from rest p (omega arith)))
          ∙ again_unacked acked left slots n next (round_lt slots (from + 1) (omega arith)) (omega arith) (omega arith)
    ]
    in go (eqb (get_or acked from 0) 0 && eqb (get_or left from 0) 0) refl h

all_six : (a b d x y z : Bool) → a ≡ true → b ≡ true → d ≡ true → x ≡ true → y ≡ true → z ≡ true → (a && b && d && x && y && z) ≡ true
all_six a b d x y z p q r s t u = simp (p, q, r, s, t, u)

-- the sender with another end of what was handed out
abbrev next_at : Sender → ℕ → Sender
next_at s n = record { phase = s.phase; line = s.line; oldest = s.oldest; start = s.start; next = n; acked = s.acked }

-- what is shown of the hand-out of Data of a rank, where it is the rank of the packet that is ready
pub record DataOut (c : Channel) (mem lens : List ℕ) (s : Sender) (rank : ℕ) : Type 0 where
  pub opened : c.phase.state ≡ record_of.opened
  pub away : segment_for c rank < 128
  pub may : may_hand_out (limits_of c.limits) s (s.start + segment_for c rank) ≡ true
  pub related : Sends (next_out c rank) mem lens (handed_out true s (s.start + segment_for c rank)).0
  pub segment : carried (get_or c.marks (place_at c (segment_for c rank)) 0 - 1)
      (segment_in c.limits.payload mem lens (slot_of c (place_at c (segment_for c rank))))
      ≡ get_or s.line (s.start + segment_for c rank) blank

module _ (c : Channel) (mem lens : List ℕ) (s : Sender) (a : Asked c mem lens) (d : c.addresses.direction ≡ sends) (r : Sends c mem lens s) where
  -- an Open, a Close or a Heartbeat
  pub single_out_sends : Sends (next_out c 0) mem lens s
  unfolding next_out
  single_out_sends =
      let control = (single_out c).phase.control in
      pulse_sends (record_of.with_control c control) mem lens s (single_out c).pulse
      (changed_sends c mem lens s c.phase.reason c.phase.kept control c.timers r)

  module _ (o : c.phase.state ≡ record_of.opened) where
    is_open_lem : s.phase ≡ ends_of.opened
    is_open_lem = state_opened s.phase (sym r.state ∙ o)

    rank_two : ends_of.rank s.phase ≡ 2
    rank_two = ap ends_of.rank is_open_lem

    holds : Holds c mem lens s.line s.oldest
    holds = let z = rank_two in r.held (omega arith)

    windowed : Windowed c s.oldest s.start s.next s.acked
    windowed = let z = rank_two in r.window (omega arith) (omega arith)

    -- a segment up to the first that was never handed out, filed, in the window and not acknowledged
    may_go : (k : ℕ) → k ≤ c.window.flight → k < c.window.ahead → k < c.limits.window → not (s.acked (s.start + k)) ≡ true
        → may_hand_out (limits_of c.limits) s (s.start + k) ≡ true
    may_go k f h w n =
        let x = holds in
        let y = windowed in
        all_six
        (ends_of.is_open s.phase)
        (leb s.start (s.start + k))
        (ltb (s.start + k) (s.start + c.limits.window))
        (ltb (s.start + k) (length s.line))
        (leb (s.start + k) s.next)
        (not (s.acked (s.start + k)))
        (ap ends_of.is_open is_open_lem)
        (le-leb s.start (s.start + k) (omega arith))
        (lt-ltb (s.start + k) (s.start + c.limits.window) (omega arith))
        (lt-ltb (s.start + k) (length s.line) (omega (arith, x.count, y.behind)))
        (le-leb (s.start + k) s.next (omega (arith, y.flight)))
        n

    -- of the segment that goes out no ack is known, and of the others what was
    new_noted : c.window.flight < c.window.ahead → (j : ℕ) → j < c.window.ahead
        → eqb (get_or (set c.acked (place_at c c.window.flight) 0) (place_at c j) 0) 0 ≡ not (s.acked (s.start + j))
    new_noted some j l =
        let h = a.standing in
        let n = counted_is c.limits c.window h.ring h.flight in
        let f = fit_is c.limits h.fit in
        let x = holds in
        let y = windowed in
        let slots = c.limits.slots in
        let k = c.window.flight in
        let inside : place_at c k < slots = round_lt slots (c.window.place + k) (omega (arith, n.place, n.held)) in
        either_way (eqb j k)
        (λ e.
        let is : j ≡ k = eqb-true _ _ e in
        let unsent : s.acked (s.start + j) ≡ false
        = not_true (s.acked (s.start + j)) (λ t. let z : s.start + j < s.next = y.sent (s.start + j) t in omega (arith, y.flight))
        in
        ap (λ (i : ℕ). eqb (get_or (set c.acked (place_at c k) 0) (place_at c i) 0) 0) is
        ∙ ap (λ (m : ℕ). eqb m 0) (get_or-set_same c.acked (place_at c k) 0 0 (omega (arith, x.acks, f.most)))
        ∙ ap not (sym unsent))
        (λ e.
        ap (λ (m : ℕ). eqb m 0)
        (get_or-set_other c.acked (place_at c k) (place_at c j) 0 0
        (λ q. eqb-false _ _ e (round_apart slots c.window.place j k n.place (omega (arith, n.held)) (omega (arith, n.held)) q)))
        ∙ y.noted j l)

    -- one more was handed out
    new_related : c.window.flight < c.window.ahead → Sends (new_out c) mem lens (next_at s (suc (s.start + c.window.flight)))
    unfolding lying
    new_related some =
        let x = holds in
        let y = windowed in
        let z = rank_two in
        record {
          state = r.state;
          before = λ e. absurd (not_fresh s.phase (omega arith) e);
          held = λ _. record { count = x.count; each = x.each; whole = x.whole; marks = x.marks; acks = length-set c.acked (place_at c c.window.flight) 0 ∙ x.acks };
          window = λ _ _.
              record {
                number = y.number;
                behind = y.behind;
                flight = omega arith;
                noted = new_noted some;
                sent = λ i e. let l : i < s.next = y.sent i e in omega (arith, y.flight);
              };
        }

  -- resent
  again_sends : ready 1 c ≡ true → DataOut c mem lens s 1
  unfolding next_out
  again_sends e =
      let o = ready_open_lem c 1 e (λ z. omega arith) in
      let h = a.standing in
      let n = counted_is c.limits c.window h.ring h.flight in
      let f = fit_is c.limits h.fit in
      let k = again_at c in
      let l : k < c.window.flight = ready_1_is c e in
      let x = holds o in
      let y = windowed o in
      let unacked = again_unacked c.acked c.timers.left c.limits.slots c.window.flight c.window.place n.place (omega (arith, n.flight, n.held)) l in
      record {
        opened = o;
        away = omega (arith, n.window, f.window);
        may = may_go o k (omega arith) (omega (arith, n.flight)) (omega (arith, n.window))
            (sym (y.noted k (omega (arith, n.flight))) ∙ eq-eqb _ _ unacked);
        related = subst (λ (i : ℕ). Sends (again_out c) mem lens (next_at s i))
            (sym (passed_by (eqb (s.start + k) s.next) (suc (s.start + k)) s.next (ne_eqb (s.start + k) s.next (λ q. omega (arith, y.flight)))))
            (pulse_sends (record_of.with_timers c (again_out c).timers) mem lens s (again_out c).pulse
            (changed_sends c mem lens s c.phase.reason c.phase.kept c.phase.control (again_out c).timers r));
        segment = carried_is c mem lens s.line s.oldest s.start s.next s.acked a x y k (omega (arith, n.flight));
      }

  -- new
  new_sends : ready 2 c ≡ true → DataOut c mem lens s 2
  unfolding next_out
  new_sends e =
      let o = ready_open_lem c 2 e (λ z. omega arith) in
      let h = a.standing in
      let f = fit_is c.limits h.fit in
      let k = c.window.flight in
      let l = ready_2_is c e in
      let x = holds o in
      let y = windowed o in
      let unsent : s.acked (s.start + k) ≡ false
      = not_true (s.acked (s.start + k)) (λ t. let z : s.start + k < s.next = y.sent (s.start + k) t in omega (arith, y.flight))
      in
      record {
        opened = o;
        away = omega (arith, l.1, f.window);
        may = may_go o k (omega arith) l.0 l.1 (ap not unsent);
        related = subst (λ (i : ℕ). Sends (new_out c) mem lens (next_at s i))
            (sym (chosen (eqb (s.start + k) s.next) (suc (s.start + k)) s.next (eq-eqb (s.start + k) s.next (omega (arith, y.flight)))))
            (new_related o l.0);
        segment = carried_is c mem lens s.line s.oldest s.start s.next s.acked a x y k l.0;
      }

  pub data_out_sends : (rank : ℕ) → ready rank c ≡ true → (rank ≡ 1) ⊎ (rank ≡ 2) → DataOut c mem lens s rank
  data_out_sends rank e one_two =
      ⊎_elim
      (λ q. subst (λ (k : ℕ). DataOut c mem lens s k) (sym q) (again_sends (ready_as c q e)))
      (λ q. subst (λ (k : ℕ). DataOut c mem lens s k) (sym q) (new_sends (ready_as c q e)))
      one_two
