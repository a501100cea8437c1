-- `sender_packets::handing::hand_step` meets its contract: the rank settles which packet it is.
use Rattle.std.proofs.Common.{◌≡◌, ℕ, ◌<◌, length, get_or, sym, ap, ◌∙◌, ap₂, arith}
use Rattle.channel.specs.declared.record.Channel.{Channel}
use Rattle.slots.specs.Slots.{segment_in}
use Rattle.channel.specs.Places.{slot_of}
use Rattle.sender.specs.Directives.{place_at}
use Rattle.sender_packets.specs.HandingOut.{again_at, data_fields, sent_step, sent_out, hand_step, hand_out}
use Rattle.channel.proofs.StandingLaws.{ringed, own_fits}
use Rattle.sender_packets.proofs.LyingLaws.{segment_sized}
use Rattle.sender_packets.proofs.HandLaws.{ready_as, ready_1_is, ready_2_is, hand_single, hand_again, hand_new, out_single, out_again, out_new}
use Rattle.sender_packets.proofs.handing.hand_step.Goals as goal

pub hand_single-requires : goal.hand_single-requires
hand_single-requires c =
    let a = c.args in
    let h = c.requires.0.standing in
    (own_fits a.c a.lens.now h, (ringed a.c a.lens.now h).window)

pub returns-in-0 : goal.returns-in-0
returns-in-0 c =
    let a = c.args in
    let k = a.c in
    let e = sym c.in-0.is in (
      c.hand_single.ensures.0 ∙ sym (hand_single a.node k a.lens.now a.mem.now a.out.now) ∙ ap (λ (x : ℕ). hand_step k a.lens.now x (length a.out.now)) e,
      c.hand_single.ensures.1 ∙ sym (out_single a.node k a.lens.now a.mem.now a.out.now) ∙ ap (λ (x : ℕ). hand_out a.node k a.lens.now a.mem.now x a.out.now) e,
    )

pub again_out-requires : goal.again_out-requires
again_out-requires c =
    let k = c.args.c in
    let r = ringed k c.args.lens.now c.requires.0.standing in
    (r, c.again_at-i.ensures, omega (arith, c.again_at-i.ensures, ready_1_is k (ready_as k c.in-1.is c.requires.1.is)))

pub hand_data-requires : goal.hand_data-requires
hand_data-requires c =
    let k = c.args.c in
    let r = ringed k c.args.lens.now c.requires.0.standing in
    (c.requires.0, omega (arith, c.again_at-i.ensures, r.flight, ready_1_is k (ready_as k c.in-1.is c.requires.1.is)))

pub returns-in-1 : goal.returns-in-1
returns-in-1 c =
    let a = c.args in
    let k = a.c in
    let e = sym c.in-1.is in
    let r = ringed k a.lens.now c.requires.0.standing in
    let less : again_at k < k.window.ahead = omega (arith, r.flight, ready_1_is k (ready_as k c.in-1.is c.requires.1.is)) in (
      c.hand_data.ensures.0
          ∙ ap₂ (λ (x : Channel) (i : ℕ). sent_step k x (get_or a.lens.now (slot_of k (place_at k i)) 0) (length a.out.now)) c.again_out.ensures c.again_at-i.ensures
          ∙ sym (hand_again a.node k a.lens.now a.mem.now a.out.now)
          ∙ ap (λ (x : ℕ). hand_step k a.lens.now x (length a.out.now)) e,
      c.hand_data.ensures.1
          ∙ ap (λ (i : ℕ). sent_out k.addresses (data_fields a.node k i) (segment_in k.limits.payload a.mem.now a.lens.now (slot_of k (place_at k i))) a.out.now) c.again_at-i.ensures
          ∙ sym (out_again a.node k a.lens.now a.mem.now a.out.now (segment_sized k a.mem.now a.lens.now c.requires.0 (again_at k) less))
          ∙ ap (λ (x : ℕ). hand_out a.node k a.lens.now a.mem.now x a.out.now) e,
    )

pub new_out-requires : goal.new_out-requires
new_out-requires c =
    let k = c.args.c in
    let two : c.args.rank ≡ 2 = omega (arith, c.requires.1.some) in
    (ringed k c.args.lens.now c.requires.0.standing, (ready_2_is k (ready_as k two c.requires.1.is)).0)

pub hand_data-requires-in_default : goal.hand_data-requires-in_default
hand_data-requires-in_default c =
    let a = c.args in
    let k = a.c in
    let two : a.rank ≡ 2 = omega (arith, c.requires.1.some) in
    let w = ready_2_is k (ready_as k two c.requires.1.is) in
    (c.requires.0, w.0)

pub returns-in_default : goal.returns-in_default
returns-in_default c =
    let a = c.args in
    let k = a.c in
    let two : a.rank ≡ 2 = omega (arith, c.requires.1.some) in
    let w = ready_2_is k (ready_as k two c.requires.1.is) in (
      c.hand_data-in_default.ensures.0
          ∙ ap (λ (x : Channel). sent_step k x (get_or a.lens.now (slot_of k (place_at k k.window.flight)) 0) (length a.out.now)) c.new_out.ensures
          ∙ sym (hand_new a.node k a.lens.now a.mem.now a.out.now)
          ∙ ap (λ (x : ℕ). hand_step k a.lens.now x (length a.out.now)) (sym two),
      c.hand_data-in_default.ensures.1
          ∙ sym (out_new a.node k a.lens.now a.mem.now a.out.now (segment_sized k a.mem.now a.lens.now c.requires.0 k.window.flight w.0))
          ∙ ap (λ (x : ℕ). hand_out a.node k a.lens.now a.mem.now x a.out.now) (sym two),
    )
