-- `arrivals::arriving::arrive_step` meets its contract: nothing but a packet is looked for.
use mathlib.Core.Path.{◌≡◌, subst, ◌∙◌}
use mathlib.Core.List.{List}
use Prim.Native.Nat.{ℕ, ◌<◌}
use native.Mathlib.Omega.{arith}
use Rattle.channel.specs.declared.record.Node.{Node}
use Rattle.channel.specs.declared.record.Channel.{Channel}
use Rattle.table.specs.declared.deciding.Decision.{Decision}
use Rattle.packet.specs.declared.fields.Fields.{Fields}
use Rattle.table.specs.declared.looking.Sought.TheVariants.{Packet}
use lib.ListN.{length}
use Rattle.table.specs.Surveying.{Served}
use Rattle.arrivals.specs.Finding.{look_of}
use Rattle.arrivals.specs.Arriving.{Framed}
use Rattle.arrivals.proofs.ArriveLaws.{framed, packet_sought, payload_inside, carried, arrival_by}
use Rattle.arrivals.proofs.arriving.arrive_step.Goals as goal

told : (c : Channel) (d : Decision) (node : Node) (mem lens s out : List ℕ) (f : Fields) (start x : ℕ)
    → Served c d mem lens × (d.look ≡ look_of node s (length out)) → d.look.sought ≡ Packet f start x → Framed c f start x s out
told c d node mem lens s out f start x p is =
    framed node s out p.0.lines d.spot.at c d.look f start x p.1 (subst (λ (k : ℕ). k < 48) p.0.suits p.0.found) is

pub overflow_add-start : goal.overflow_add-start
overflow_add-start c =
    let a = c.args in
    omega (arith, payload_inside a.c c.in-Packet.fields c.in-Packet.start c.in-Packet.length a.packet.now a.out.now (told a.c a.d a.node a.mem.now a.lens.now a.packet.now a.out.now _ _ _ c.requires c.in-Packet.is))

pub slice_bounds-arrive-end : goal.slice_bounds-arrive-end
slice_bounds-arrive-end c =
    let a = c.args in
    omega (arith, payload_inside a.c c.in-Packet.fields c.in-Packet.start c.in-Packet.length a.packet.now a.out.now (told a.c a.d a.node a.mem.now a.lens.now a.packet.now a.out.now _ _ _ c.requires c.in-Packet.is))

pub arrive-requires : goal.arrive-requires
arrive-requires c =
    let a = c.args in
    (c.requires.0, carried a.c c.in-Packet.fields c.in-Packet.start c.in-Packet.length a.packet.now a.out.now (told a.c a.d a.node a.mem.now a.lens.now a.packet.now a.out.now _ _ _ c.requires c.in-Packet.is))

pub returns-in_default : goal.returns-in_default
returns-in_default c =
    let a = c.args in
    let p = c.requires in
    absurd (c.in_default.not-Packet _ _ _ (packet_sought a.node a.packet.now (length a.out.now) p.0.lines a.d.spot.at a.c a.d.look p.1 (subst (λ (k : ℕ). k < 48) p.0.suits p.0.found)))

pub returns : goal.returns
returns c =
    let a = c.args in
    c.arrive.ensures
    ∙ arrival_by a.c c.in-Packet.fields c.in-Packet.start c.in-Packet.length a.packet.now a.out.now (told a.c a.d a.node a.mem.now a.lens.now a.packet.now a.out.now _ _ _ c.requires c.in-Packet.is)
    a.node a.d a.mem.now a.lens.now
