-- Laws of one record of the survey, and of what the survey decides: one for each case.
-- Assumes nothing.
use mathlib.Core.Path.{◌≡◌, refl, sym, ap, ◌∙◌}
use mathlib.Core.Bool.{Bool, true, false, ◌&&◌}
use mathlib.Core.List.{List}
use Prim.Native.Nat.{ℕ, ◌+◌, ◌≤◌, ◌<◌}
use native.Mathlib.Omega.{arith}
use borrow.Author.Tests.{lt-ltb, le-ltb, le-leb, lt-leb}
use lib.Dec.{eqb}
use lib.ListN.{length, drop, length-take, length-drop}
use Rattle.laws.proofs.Choice.{both}
use Rattle.packet.specs.declared.fields.Fields.{Fields}
use Rattle.packet.specs.declared.kinds.Kind.{Kind}
use Rattle.packet.specs.Kinds.{kind_of}
use Rattle.channel.specs.declared.record.Addresses.{Addresses}
use Rattle.channel.specs.declared.record.Channel.{Channel}
use Rattle.channel.specs.declared.record.Prefix.{Prefix}
use Rattle.channel.specs.Prefixes.{same_prefix}
use Rattle.channel.specs.declared.answer.Refusal.TheVariants as refusal
use Rattle.channel.specs.Standing.{standing}
use Rattle.channel.proofs.SettingsLaws.{fit_is}
use Rattle.channel.proofs.StandingLaws.{stands_is}
use Rattle.table.specs.declared.surveying.Survey.{Survey}
use Rattle.table.specs.Looking.{looks_for, same, missing}
use Rattle.table.specs.Lent.{part_of}
use Rattle.table.specs.Surveying.{unsound, noted, survey_one, is_sound, refused_by, served_by, decided}

-- ---- a record and its part of the lengths

-- a record that stands has a slot at least, and its part lies within what is lent
pub stands_within : (c : Channel) (lens : List ℕ) (slot : ℕ) → standing c (part_of slot c.limits.slots lens) ≡ true
    → (1 ≤ c.limits.slots) × (slot + c.limits.slots ≤ length lens)
stands_within c lens slot e =
    let h = stands_is c (part_of slot c.limits.slots lens) e in
    let f = fit_is c.limits h.fit in
    let some : 1 ≤ c.limits.slots = omega (arith, f.some, f.slots) in
    let n = sym (length-take c.limits.slots (drop slot lens)) ∙ h.count in
    (some, omega (arith, length-drop slot lens, n))

pub out_of_reach : (c : Channel) (lens : List ℕ) (slot : ℕ) → length lens < slot + c.limits.slots
    → standing c (part_of slot c.limits.slots lens) ≡ false
out_of_reach c lens slot h = go (standing c (part_of slot c.limits.slots lens)) refl
  where
    go : (b : Bool) → standing c (part_of slot c.limits.slots lens) ≡ b → standing c (part_of slot c.limits.slots lens) ≡ false
    go true e = let p = stands_within c lens slot e in absurd (omega (arith, p.1, h))
    go false e = e

-- ---- one record more

module _ (v : Survey) (c : Channel) (lens : List ℕ) (j : ℕ) where
  pub one_spoilt : v.sound ≡ false → survey_one v c lens j ≡ v
  unfolding survey_one
  one_spoilt e = simp (e)

  module _ (sound : v.sound ≡ true) where
    pub one_many : 16 ≤ j → survey_one v c lens j ≡ unsound v
    unfolding survey_one
    one_many h = simp (sound, le-leb 16 j h)

    module _ (few : j < 16) where
      module _ (slots : v.slots ≤ 4096) where
        module _ (octets : v.octets ≤ 2097152) where
          pub one_lacks : standing c (part_of v.slots c.limits.slots lens) ≡ false → survey_one v c lens j ≡ unsound v
          unfolding survey_one
          one_lacks h = simp (sound, lt-leb 16 j few, le-ltb 4096 v.slots slots, le-ltb 2097152 v.octets octets, h)

          pub one_stands : standing c (part_of v.slots c.limits.slots lens) ≡ true → survey_one v c lens j ≡ noted v c j
          unfolding survey_one
          one_stands h = simp (sound, lt-leb 16 j few, le-ltb 4096 v.slots slots, le-ltb 2097152 v.octets octets, h)

-- ---- what is decided

module _ (v : Survey) (n m l : ℕ) where
  pub decided_bad : is_sound v n m l ≡ false → decided v n m l ≡ refused_by v n refusal.Settings
  unfolding decided
  decided_bad e = simp (e)

  pub decided_found : is_sound v n m l ≡ true → v.spot.grade < 48 → decided v n m l ≡ served_by v
  unfolding decided
  decided_found e h = simp (e, lt-ltb v.spot.grade 48 h)

  pub decided_none : is_sound v n m l ≡ true → 48 ≤ v.spot.grade → decided v n m l ≡ refused_by v n (missing v.look.sought)
  unfolding decided
  decided_none e h = simp (e, le-ltb v.spot.grade 48 h)

-- ---- a packet's channel

-- its direction is looked for: Data Acks and Control Acks find a sender, Data and Control a receiver, Heartbeats and their Acks either, type 6 by what it carries
pub kind_finds : (a : Addresses) (f : Fields) (x : ℕ) (q : Prefix) (k : Kind) → same a f x q ≡ true → kind_of f.kind ≡ k → looks_for k x a.direction ≡ true
unfolding same
kind_finds a f x q k e is =
    ap (λ (z : Kind). looks_for z x a.direction) (sym is)
    ∙ (both (eqb a.channel f.channel && eqb a.remote f.source && same_prefix a.prefix q) _ e).1
