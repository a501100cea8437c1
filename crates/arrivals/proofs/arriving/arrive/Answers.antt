-- `arrivals::arriving::arrive` meets its contract: what only the channel tells is tested, and then the packet's kind decides.
use mathlib.Core.Path.{sym, ap, ◌∙◌, subst}
use Prim.Native.Nat.{ℕ, ◌≤◌, ◌<◌}
use lib.ListN.{length}
use Rattle.packet.specs.declared.kinds.Kind.{Kind}
use Rattle.walks.specs.Serving.{works, Worked}
use Rattle.channel.specs.declared.step.Stepped.{Stepped}
use Rattle.channel.specs.declared.answer.Refusal.TheVariants as refusal
use Rattle.channel.specs.Steps.{refusing}
use Rattle.table.specs.Waiting.{rank_in}
use Rattle.table.specs.Surveying.{mine, mine_lens, wholly}
use Rattle.table.proofs.Parts.{quiet}
use Rattle.arrivals.specs.Arriving.{Replies, arrive_by}
use Rattle.arrivals.proofs.ArriveLaws.{by_small, by_unfit, by_kind}
use Rattle.arrivals.proofs.arriving.arrive.Goals as goal

pub returns-then-out-wanted : goal.returns-then-out-wanted
returns-then-out-wanted c =
    let a = c.args in
    let p = a.payload.now in
    let wanted = c.reply_length-wanted.ensures in
    let small = subst (λ (n : ℕ). length a.out.now < n) wanted c.if-out-wanted.true in
    ap (λ (x : Stepped). works x a.mem.now a.lens.now a.out.now) (c.refused.ensures ∙ ap (λ (n : ℕ). refusing a.c (refusal.Small n)) wanted)
    ∙ quiet (arrive_by a.node a.f (length p) p) a.c a.d a.mem.now a.lens.now a.out.now _ a.out.now
    (by_small a.node a.f (length p) p a.c (rank_in a.d.spot.grade) (mine a.c a.d a.mem.now) (mine_lens a.c a.d a.lens.now) a.out.now _ (sym c.from-kind.ensures) small)

pub returns-then-is_unfit : goal.returns-then-is_unfit
returns-then-is_unfit c =
    let a = c.args in
    let p = a.payload.now in
    let fits = subst (λ (n : ℕ). n ≤ length a.out.now) c.reply_length-wanted.ensures c.if-out-wanted.false in
    let room = subst (λ (k : Kind). Replies a.c k (length p) a.out.now) c.from-kind.ensures fits in
    ap (λ (x : Stepped). works x a.mem.now a.lens.now a.out.now) c.refused-then-is_unfit.ensures
    ∙ quiet (arrive_by a.node a.f (length p) p) a.c a.d a.mem.now a.lens.now a.out.now (refusing a.c refusal.Strange) a.out.now
    (by_unfit a.node a.f (length p) p a.c (rank_in a.d.spot.grade) (mine a.c a.d a.mem.now) (mine_lens a.c a.d a.lens.now) a.out.now room
    (sym c.is_unfit.ensures ∙ c.if-is_unfit.true))

pub returns : goal.returns
returns c =
    let a = c.args in
    let p = a.payload.now in
    let fits = subst (λ (n : ℕ). n ≤ length a.out.now) c.reply_length-wanted.ensures c.if-out-wanted.false in
    let room = subst (λ (k : Kind). Replies a.c k (length p) a.out.now) c.from-kind.ensures fits in
    c.arrive_as.ensures
    ∙ ap (λ (w : Worked Stepped). wholly a.d a.mem.now a.lens.now w)
    (sym
    (by_kind a.node a.f (length p) p a.c (rank_in a.d.spot.grade) (mine a.c a.d a.mem.now) (mine_lens a.c a.d a.lens.now) a.out.now room
    (sym c.is_unfit.ensures ∙ c.if-is_unfit.false) _ (sym c.from-kind.ensures)))
