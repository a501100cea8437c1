-- Laws of an arrival of Data: what a payload within P has shown, and its step over the whole of what is lent.
-- Assumes nothing.
use mathlib.Core.Path.{◌≡◌, sym, ap, ◌∙◌}
use mathlib.Core.Bool.{false}
use mathlib.Core.List.{List, []}
use Prim.Native.Nat.{ℕ, ◌+◌, ◌-◌, ◌≤◌}
use borrow.Author.Tests.{ltb-false}
use borrow.Rule.Slice.PartMut.{put_mid}
use lib.ListN.{length, take, drop}
use Rattle.packet.specs.declared.fields.Fields.{Fields}
use Rattle.packet.specs.declared.kinds.Kind.{Kind}
use Rattle.packet.specs.declared.kinds.Kind.TheVariants.{Data}
use Rattle.packet.specs.Kinds.{kind_of}
use Rattle.walks.specs.Serving.{Worked, works}
use Rattle.channel.specs.declared.record.Node.{Node}
use Rattle.channel.specs.declared.record.Channel.{Channel}
use Rattle.channel.specs.declared.step.Stepped.{Stepped}
use Rattle.channel.specs.Record.{receives}
use Rattle.receiver_data.specs.Data.{data_step, data_mem, data_lens}
use Rattle.ends.proofs.ReceiverKeeps.{data_sized}
use Rattle.table.specs.declared.deciding.Decision.{Decision}
use Rattle.table.specs.Lent.{area_of}
use Rattle.table.specs.Surveying.{mine, mine_lens, stepping, Served}
use Rattle.table.proofs.Parts.{parts_filed}
use Rattle.receiver.specs.declared.acks.Acked.TheVariants as acked
use Rattle.arrivals.specs.Replying.{acknowledging, replying}
use Rattle.arrivals.specs.Data.{unfit_as, unfit, data_for}

-- by the kind of the packet
pub fit_as : (c : Channel) (f : Fields) (x : ℕ) (k : Kind) → kind_of f.kind ≡ k → unfit c f x ≡ unfit_as k c x
unfolding unfit
fit_as c f x k e = ap (λ (z : Kind). unfit_as z c x) e

-- Data that is fit has at most P octets
pub fit_payload : (c : Channel) (f : Fields) (x : ℕ) → unfit c f x ≡ false → kind_of f.kind ≡ Data → x ≤ c.limits.payload
fit_payload c f x e k = ltb-false c.limits.payload x (sym (fit_as c f x Data k) ∙ e)

-- ---- Data, over the whole of what is lent

pub data_files : (node : Node) (f : Fields) (p : List ℕ) (c : Channel) (d : Decision) (mem lens out : List ℕ)
    → c.addresses.direction ≡ receives
    → Served c d mem lens
    → length p ≤ c.limits.payload
    → (a b i j : ℕ)
    → (a ≡ d.spot.octet) × (b ≡ d.spot.octet + area_of c.limits)
    → (i ≡ d.spot.slot) × (j ≡ d.spot.slot + c.limits.slots)
    → (s r : Stepped) (m l o : List ℕ)
    → s ≡ data_step c f.number f.flags
    → m ≡ data_mem c f.number p (take (b - a) (drop a mem))
    → l ≡ data_lens c f.number p (take (j - i) (drop i lens))
    → works r [] [] o ≡ replying node c acked.Data f.number s [] [] out
    → works r (put_mid a (b - a) mem m) (put_mid i (j - i) lens l) o ≡ stepping (data_for node f p) c d mem lens out
data_files node f p c d mem lens out dir served few a b i j octets slots s r m l o es em el eo =
    let e = eo ∙ ap (λ (x : Stepped). replying node c acked.Data f.number x [] [] out) es in
    parts_filed (data_for node f p) c d mem lens out a b i j octets slots (data_mem c f.number p) (data_lens c f.number p) r (acknowledging f.number (data_step c f.number f.flags)) m l o
    (ap (λ (w : Worked Stepped). w.made) e) em el (data_sized c (mine_lens c d lens) dir served.standing f.number p (mine c d mem) few served.sized)
    (ap (λ (w : Worked Stepped). works (acknowledging f.number (data_step c f.number f.flags)) (data_mem c f.number p (mine c d mem)) (data_lens c f.number p (mine_lens c d lens)) w.out) (sym e))
