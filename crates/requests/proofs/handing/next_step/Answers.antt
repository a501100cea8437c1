-- `requests::handing::next_step` meets its contract: the parts are cut out and read; a packet of that rank is ready.
use mathlib.Core.Path.{refl, sym, ap, ◌∙◌, subst}
use Prim.Native.Nat.{ℕ, ◌-◌}
use lib.ListN.{length, take, drop}
use Rattle.sender_packets.specs.HandingOut.{hand_step, hand_out}
use Rattle.table.proofs.Parts.{own_asked, parts_read}
use Rattle.sender_packets.specs.Asked.{Ready}
use Rattle.table.specs.Waiting.{rank_in}
use Rattle.requests.specs.Handing.{next_for}
use Rattle.requests.proofs.HandLaws.{ready_is}
use Rattle.table.specs.declared.looking.Look.{Look}
use Rattle.table.specs.Looking.{graded}
use Rattle.requests.proofs.handing.next_step.Goals as goal

pub hand_step-requires : goal.hand_step-requires
hand_step-requires c =
    let a = c.args in
    let p = c.requires in
    let s = p.0 in
    let r = ready_is a.d.spot.at a.c s.lines a.d.spot.grade (s.suits ∙ ap (λ (l : Look). graded l s.lines a.d.spot.at a.c) p.1) s.found in
    (own_asked a.c a.d a.mem.now a.lens.now _ _ _ _ c.octets.ensures c.slots.ensures s, subst (λ (k : ℕ). Ready a.c k) (sym c.rank_in.ensures) r)

pub returns : goal.returns
unfolding next_for
returns c =
    let a = c.args in
    let h = c.hand_step.ensures in
    let k = c.rank_in.ensures in
    let octets = c.octets.result in
    let slots = c.slots.result in
    let lens = take (slots.end - slots.start) (drop slots.start a.lens.now) in
    let mem = take (octets.end - octets.start) (drop octets.start a.mem.now) in
    let rank = rank_in a.d.spot.grade in
    parts_read (next_for a.node) a.c a.d a.mem.now a.lens.now a.out.now _ _ _ _ c.octets.ensures c.slots.ensures
    (λ lens. hand_step a.c lens rank (length a.out.now)) (λ lens mem. hand_out a.node a.c lens mem rank a.out.now) _ _
    (h.0 ∙ ap (λ (r : ℕ). hand_step a.c lens r (length a.out.now)) k)
    (h.1 ∙ ap (λ (r : ℕ). hand_out a.node a.c lens mem r a.out.now) k)
    refl
