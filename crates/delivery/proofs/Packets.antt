-- Packets as the two ends see them: what is known of one that names a channel, and that no two channels of a table are named by one.
-- Assumes nothing.
use mathlib.Core.Path.{◌≡◌, refl, sym, ap, ap₂, ◌∙◌}
use mathlib.Core.Bool.{Bool, true, false, not, true≢false, ◌&&◌}
use mathlib.Core.List.{List, []}
use Prim.Native.Nat.{ℕ}
use borrow.Author.Tests.{eqb-true, eq-eqb}
use lib.Dec.{eqb}
use Rattle.std.specs.Prelude.{Result, Err, if◌then◌else◌}
use Rattle.laws.proofs.Choice.{both}
use Rattle.packet.specs.declared.kinds.Kind as packets
use Rattle.packet.specs.declared.kinds.Kind.TheVariants as kinds
use Rattle.packet.specs.Kinds.{kind_of}
use Rattle.packet.specs.declared.fields.Fields.{Fields}
use Rattle.packet.specs.Layout.{fields_at, prefix_at, length_at, payload_at}
use Rattle.packet.specs.Tests.{short, damaged, lacking, strange}
use Rattle.packet.specs.declared.reading.Found.{Found}
use Rattle.packet.specs.declared.reading.ReadError.{ReadError}
use Rattle.packet.specs.declared.reading.ReadError.TheVariants.{Short, Damaged, Strange, Lacking}
use Rattle.packet.specs.Reading.{finds, read_of}
use Rattle.packet.proofs.ReadLaws.{read_found}
use Rattle.channel.specs.declared.record.Node.{Node}
use Rattle.channel.specs.declared.record.Addresses.{Addresses}
use Rattle.channel.specs.declared.answer.Answer.TheVariants.{Refused}
use Rattle.channel.specs.declared.answer.Refusal.{Refusal}
use Rattle.channel.specs.declared.answer.Refusal.TheVariants as refusal
use Rattle.channel.specs.Answers.{number_of}
use Rattle.channel.specs.declared.record.Prefix.{Prefix}
use Rattle.channel.specs.Prefixes.{same_prefix}
use Rattle.channel.proofs.PrefixLaws.{same_both}
use Rattle.channel.specs.Settings.{clash}
use Rattle.delivery.specs.Delivery.{rivals}
use Rattle.table.specs.Looking.{looks_for, same}
use Rattle.arrivals.specs.Finding.{is_ours, prefix_read}
use Rattle.arrivals.proofs.FindLaws.{ReadWell}
use Rattle.delivery.specs.Calls.{End, channel_of}
use Rattle.delivery.specs.History.{names_by, names, is_free, binds}

-- ---- a packet that names the channel

pub record Named (node : Node) (a : Addresses) (packet : List ℕ) : Type 0 where
  pub well : ReadWell packet
  pub ours : is_ours node (fields_at packet) ≡ true
  pub same : same a (fields_at packet) (length_at packet) (prefix_read packet) ≡ true

-- by the reader's tests, in its order
named_by : (node : Node) (a : Addresses) (packet : List ℕ) (b1 b2 b3 b4 : Bool)
    → short packet ≡ b1 → damaged packet ≡ b2 → lacking (fields_at packet) (prefix_at packet) ≡ b3 → strange (fields_at packet) (length_at packet) ≡ b4
    → names_by
    (if b1 then Err Short else if b2 then Err Damaged else if b3 then Err Lacking else if b4 then Err Strange
    else finds (fields_at packet) (prefix_at packet) (payload_at (prefix_at packet)) (length_at packet)) packet node a ≡ true
    → Named node a packet
named_by node a packet true b2 b3 b4 e1 e2 e3 e4 n = absurd (true≢false (sym n))
named_by node a packet false true b3 b4 e1 e2 e3 e4 n = absurd (true≢false (sym n))
named_by node a packet false false true b4 e1 e2 e3 e4 n = absurd (true≢false (sym n))
named_by node a packet false false false true e1 e2 e3 e4 n = absurd (true≢false (sym n))
named_by node a packet false false false false e1 e2 e3 e4 n =
    let p = both (is_ours node (fields_at packet)) (same a (fields_at packet) (length_at packet) (prefix_read packet)) n in
    record { well = record { short = e1; damaged = e2; lacking = e3; strange = e4 }; ours = p.0; same = p.1 }

pub named_is : (e : End) (packet : List ℕ) → names e packet ≡ true → Named e.node (channel_of e).addresses packet
unfolding read_of
named_is e packet n =
    named_by e.node (channel_of e).addresses packet (short packet) (damaged packet) (lacking (fields_at packet) (prefix_at packet)) (strange (fields_at packet) (length_at packet)) refl refl refl refl n

-- and back
pub names_so : (e : End) (packet : List ℕ) → ReadWell packet → is_ours e.node (fields_at packet) ≡ true → same (channel_of e).addresses (fields_at packet) (length_at packet) (prefix_read packet) ≡ true
    → names e packet ≡ true
names_so e packet w ours is =
    ap (λ (r : Result Found ReadError). names_by r packet e.node (channel_of e).addresses) (read_found packet w.short w.damaged w.lacking w.strange)
    ∙ ap₂ (λ (p q : Bool). p && q) ours is

-- of no kind that is free, so that the premises bind it
pub binds_so : (e : End) (packet : List ℕ) (kind : packets.Kind) → kind_of (fields_at packet).kind ≡ kind → is_free kind ≡ false → names e packet ≡ true → binds e packet ≡ true
binds_so e packet kind is none named = ap₂ (λ (p q : Bool). p && not q) named (ap is_free is ∙ none)

pub names_nothing : (e : End) → names e [] ≡ false
unfolding read_of short
names_nothing e = refl

-- ---- what two channels would have in common

-- a packet that is not free tells the direction of the end that it is for
one_way : (kind : packets.Kind) (x a b : ℕ) → is_free kind ≡ false → looks_for kind x a ≡ true → looks_for kind x b ≡ true → a ≡ b
one_way kinds.Data x a b none p q = eqb-true _ _ p ∙ sym (eqb-true _ _ q)
one_way kinds.DataAck x a b none p q = eqb-true _ _ p ∙ sym (eqb-true _ _ q)
one_way kinds.Open x a b none p q = eqb-true _ _ p ∙ sym (eqb-true _ _ q)
one_way kinds.Close x a b none p q = eqb-true _ _ p ∙ sym (eqb-true _ _ q)
one_way kinds.Heartbeat x a b none p q = absurd (true≢false none)
one_way kinds.HeartbeatAck x a b none p q = absurd (true≢false none)
one_way kinds.FlowControl x a b none p q = absurd (true≢false none)
one_way kinds.ControlAck x a b none p q = eqb-true _ _ p ∙ sym (eqb-true _ _ q)
one_way (kinds.Lacking code) x a b none p q = eqb-true _ _ p ∙ sym (eqb-true _ _ q)

pub same_rivals : (a b : Addresses) (f : Fields) (x : ℕ) (q : Prefix) → is_free (kind_of f.kind) ≡ false → same a f x q ≡ true → same b f x q ≡ true → rivals a b ≡ true
unfolding same clash
same_rivals a b f x q none p r =
    let p1 = both (eqb a.channel f.channel && eqb a.remote f.source && same_prefix a.prefix q) (looks_for (kind_of f.kind) x a.direction) p in
    let r1 = both (eqb b.channel f.channel && eqb b.remote f.source && same_prefix b.prefix q) (looks_for (kind_of f.kind) x b.direction) r in
    let p2 = both (eqb a.channel f.channel && eqb a.remote f.source) (same_prefix a.prefix q) p1.0 in
    let r2 = both (eqb b.channel f.channel && eqb b.remote f.source) (same_prefix b.prefix q) r1.0 in
    let p3 = both (eqb a.channel f.channel) (eqb a.remote f.source) p2.0 in
    let r3 = both (eqb b.channel f.channel) (eqb b.remote f.source) r2.0 in
    let w = eq-eqb a.channel b.channel (eqb-true a.channel f.channel p3.0 ∙ sym (eqb-true b.channel f.channel r3.0)) in
    let y = eq-eqb a.remote b.remote (eqb-true a.remote f.source p3.1 ∙ sym (eqb-true b.remote f.source r3.1)) in
    let z = eq-eqb a.direction b.direction (one_way (kind_of f.kind) x a.direction b.direction none p1.1 r1.1) in
    simp (w, y, z, same_both a.prefix b.prefix q p2.1 r2.1)

pub equal_rivals : (a b : Addresses) → a.channel ≡ b.channel → a.remote ≡ b.remote → a.direction ≡ b.direction → same_prefix a.prefix b.prefix ≡ true
    → rivals a b ≡ true
unfolding clash
equal_rivals a b p q r e = simp (eq-eqb a.channel b.channel p, eq-eqb a.remote b.remote q, eq-eqb a.direction b.direction r, e)

-- ---- a refusal is not 0

pub refused_not_done : (why : Refusal) → eqb (number_of (Refused why)) 0 ≡ false
refused_not_done refusal.Short = refl
refused_not_done refusal.Damaged = refl
refused_not_done refusal.Strange = refl
refused_not_done refusal.Lacking = refl
refused_not_done refusal.State = refl
refused_not_done refusal.Long = refl
refused_not_done refusal.NoRoom = refl
refused_not_done refusal.Full = refl
refused_not_done refusal.Untaken = refl
refused_not_done (refusal.Small n) = refl
refused_not_done refusal.Nothing = refl
refused_not_done refusal.Settings = refl
refused_not_done refusal.NoChannel = refl
refused_not_done refusal.Ignored = refl
