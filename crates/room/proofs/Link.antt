-- What a link that keeps order brings is a copy of what was written, as demand 3 asks it; and what it leaves of a chain.
-- Assumes nothing.
use mathlib.Core.Path.{◌≡◌, refl, sym, ap, ap₂, ◌∙◌, subst}
use mathlib.Core.Bool.{Bool, true, false, not, true≢false, ◌&&◌}
use mathlib.Core.List.{List, [], ◌∷◌, ◌++◌, append_assoc}
use mathlib.Core.Logic.{inl, inr}
use Prim.Native.Nat.{ℕ}
use native.Mathlib.Omega.{arith}
use borrow.Author.Tests.{not-true}
use Rattle.laws.proofs.Choice.{both}
use Rattle.packet.specs.declared.kinds.Kind as packets
use Rattle.packet.specs.declared.kinds.Kind.TheVariants as kinds
use Rattle.packet.specs.Kinds.{kind_of}
use Rattle.packet.specs.Layout.{fields_at}
use Rattle.delivery.specs.Calls.{End}
use Rattle.delivery.specs.History.{subscriber, Event, is, names, is_free, binds, HandedOut, Replied}
use Rattle.room.specs.Order.{is_beat, is_flow, steers, wrote_by, Sent, Told, Copied, Brings}
use Rattle.room.proofs.Chains.{Chain, Cut, chain_from, cut}

-- ---- kinds

-- what the premises of demand 3 bind is no Heartbeat and no Flow Control
pub bound_kind : (kind : packets.Kind) → is_free kind ≡ false → (is_beat kind ≡ false) × (is_flow kind ≡ false)
bound_kind kinds.Data e = (refl, refl)
bound_kind kinds.DataAck e = (refl, refl)
bound_kind kinds.Open e = (refl, refl)
bound_kind kinds.Close e = (refl, refl)
bound_kind kinds.Heartbeat e = absurd (true≢false e)
bound_kind kinds.HeartbeatAck e = absurd (true≢false e)
bound_kind kinds.FlowControl e = absurd (true≢false e)
bound_kind kinds.ControlAck e = (refl, refl)
bound_kind (kinds.Lacking code) e = (refl, refl)

pub binds_named : (e : End) (packet : List ℕ) → binds e packet ≡ true → (names e packet ≡ true) × (is_free (kind_of (fields_at packet).kind) ≡ false)
binds_named e packet b = let p = both (names e packet) (not (is_free (kind_of (fields_at packet).kind))) b in (p.0, not-true _ p.1)

-- of a kind that is no Heartbeat it is kept in order
pub steers_so : (h : End) (packet : List ℕ) (kind : packets.Kind) → kind_of (fields_at packet).kind ≡ kind → is_beat kind ≡ false → names h packet ≡ true → steers h packet ≡ true
steers_so h packet kind is none named = ap₂ (λ (p q : Bool). p && not q) named (ap is_beat is ∙ none)

-- ---- copies

pub brought : (W : Event → Type 0) (recent later : List Event) (b : Bool) → b ≡ true → Brings b W recent later → Copied W recent later
brought W recent later b e w = subst (λ (b : Bool). Brings b W recent later) e w

handed_in_lem : (h : End) (later : List Event) (source : Event) (rest : List Event) (i : ℕ) (packet : List ℕ) → Sent h i packet source
    → HandedOut h (later ++ (source ∷ rest)) i packet
handed_in_lem h [] source rest i packet w = inl w
handed_in_lem h (e ∷ later) source rest i packet w = inr (handed_in_lem h later source rest i packet w)

replied_in_lem : (s : End) (later : List Event) (source : Event) (rest : List Event) (i : ℕ) (packet : List ℕ) → is_flow (kind_of (fields_at packet).kind) ≡ false → Told s i packet source
    → Replied s (later ++ (source ∷ rest)) i packet
replied_in_lem s [] source rest i packet none w = inl (subst (λ (b : Bool). is subscriber (wrote_by b) source.call ≡ true) none w.0, w.1, w.2, w.3)
replied_in_lem s (e ∷ later) source rest i packet none w = inr (replied_in_lem s later source rest i packet none w)

-- all that happened, by a copy of a part of it
pub copied_whole : {W : Event → Type 0} {past recent later : List Event} (older : List Event) (k : Copied W recent later) → past ≡ recent ++ older
    → past ≡ later ++ (k.source ∷ (k.before ++ older))
copied_whole {later = later} older k e = e ∙ ap (λ (l : List Event). l ++ older) k.order ∙ append_assoc later (k.source ∷ k.before) older

pub copied_handed : (h : End) {past recent later : List Event} (older : List Event) (i : ℕ) (packet : List ℕ) → past ≡ recent ++ older → Copied (Sent h i packet) recent later → HandedOut h past i packet
copied_handed h {later = later} older i packet e k =
    subst (λ (l : List Event). HandedOut h l i packet) (sym (copied_whole older k e)) (handed_in_lem h later k.source (k.before ++ older) i packet k.wrote)

pub copied_replied : (s : End) {past recent later : List Event} (older : List Event) (i : ℕ) (packet : List ℕ) → is_flow (kind_of (fields_at packet).kind) ≡ false → past ≡ recent ++ older
    → Copied (Told s i packet) recent later → Replied s past i packet
copied_replied s {later = later} older i packet none e k =
    subst (λ (l : List Event). Replied s l i packet) (sym (copied_whole older k e)) (replied_in_lem s later k.source (k.before ++ older) i packet none k.wrote)

-- ---- chains

module _ (R : List Event → Event → ℕ → ℕ → Type 0) (W : Event → Type 0) (recent later : List Event) (older : List Event) (top low : ℕ) (c : Chain R older top low recent) where
  -- at the source
  pub cut_at : (k : Copied W recent later) → Cut R older top low later k.source k.before
  cut_at k = cut R older top low later k.source k.before (subst (Chain R older top low) k.order c)

  -- what is left of it, by what was brought
  pub trimmed : (b : Bool) → Brings b W recent later → (l : List Event) × Chain R l top low later
  trimmed true k =
      let w = cut_at k in
      (k.source ∷ (k.before ++ older), chain_from R (k.source ∷ (k.before ++ older)) top w.to low later (let a = w.after in let b = w.rises in omega arith) w.rest)
  trimmed false e = (older, subst (Chain R older top low) (sym e) c)
