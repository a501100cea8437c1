-- Laws of which channel an arrival is for: what a packet that was found a channel has shown.
-- Assumes nothing.
use mathlib.Core.Path.{◌≡◌, refl, subst}
use mathlib.Core.Bool.{Bool, true, false}
use mathlib.Core.List.{List}
use Prim.Native.Nat.{ℕ, ◌≤◌, ◌<◌}
use native.Mathlib.Nat.{lt_irrefl}
use native.Mathlib.Omega.{arith}
use borrow.Author.Tests.{ltb-false}
use lib.Dec.{ltb}
use lib.ListN.{length}
use Rattle.packet.specs.Layout.{least, most_prefix, payload_at, fields_at, prefix_at, length_at}
use Rattle.packet.specs.Tests.{short, damaged, lacking, strange}
use Rattle.packet.specs.Reading.{finds, read_of}
use Rattle.packet.specs.declared.fields.Fields.{Fields}
use Rattle.packet.proofs.Tests.{sourced, sound}
use Rattle.packet.proofs.ReadLaws.{accepted}
use Rattle.channel.specs.declared.record.Node.{Node}
use Rattle.channel.specs.declared.record.Channel.{Channel}
use Rattle.channel.specs.declared.answer.Refusal.{Refusal}
use Rattle.channel.specs.declared.answer.Refusal.TheVariants as refusal
use Rattle.table.specs.declared.looking.Look.{Look}
use Rattle.table.specs.declared.looking.Sought.{Sought}
use Rattle.table.specs.declared.looking.Sought.TheVariants.{Packet, Nobody}
use Rattle.table.specs.Looking.{graded_by, graded}
use Rattle.arrivals.specs.Finding.{is_ours, look_of, prefix_read}

-- a refusal finds no channel
pub no_one : (look : Look) (why : Refusal) (lines : List ℕ) (at : ℕ) (c : Channel) → look.sought ≡ Nobody why → graded look lines at c < 48 → ⊥
no_one look why lines at c e h = lt_irrefl 48 (subst (λ (l : Sought). graded_by l look.prefix lines at c < 48) e h)

-- what a packet that passes the reader's four tests has
pub record ReadWell (s : List ℕ) : Type 0 where
  pub short : short s ≡ false
  pub damaged : damaged s ≡ false
  pub lacking : lacking (fields_at s) (prefix_at s) ≡ false
  pub strange : strange (fields_at s) (length_at s) ≡ false

-- what is then looked for
abbrev pub found : List ℕ → Look
found s = record { sought = Packet (fields_at s) (payload_at (prefix_at s)) (length_at s); prefix = prefix_read s }

module _ (node : Node) (s : List ℕ) (room : ℕ) (lines : List ℕ) (at : ℕ) (c : Channel) where
  pub found_packet : graded (look_of node s room) lines at c < 48
      → (least ≤ room) × ReadWell s × (is_ours node (fields_at s) ≡ true) × (look_of node s room ≡ found s)
  unfolding look_of read_of
  found_packet h = by_room (ltb room least) refl
    where
      Wanted : Type 0
      Wanted = (least ≤ room) × ReadWell s × (is_ours node (fields_at s) ≡ true) × (look_of node s room ≡ found s)

      by_ours : ltb room least ≡ false → ReadWell s → (b : Bool) → is_ours node (fields_at s) ≡ b → Wanted
      by_ours r w true e = (ltb-false room least r, w, e, simp (r, w.short, w.damaged, w.lacking, w.strange, e))
      by_ours r w false e = absurd (no_one (look_of node s room) refusal.Strange lines at c (simp (r, w.short, w.damaged, w.lacking, w.strange, e)) h)

      by_strange : ltb room least ≡ false → short s ≡ false → damaged s ≡ false → lacking (fields_at s) (prefix_at s) ≡ false
          → (b : Bool) → strange (fields_at s) (length_at s) ≡ b → Wanted
      by_strange r e1 e2 e3 false e = by_ours r (record { short = e1; damaged = e2; lacking = e3; strange = e }) (is_ours node (fields_at s)) refl
      by_strange r e1 e2 e3 true e = absurd (no_one (look_of node s room) refusal.Strange lines at c (simp (r, e1, e2, e3, e)) h)

      by_lacking : ltb room least ≡ false → short s ≡ false → damaged s ≡ false → (b : Bool) → lacking (fields_at s) (prefix_at s) ≡ b → Wanted
      by_lacking r e1 e2 false e = by_strange r e1 e2 e (strange (fields_at s) (length_at s)) refl
      by_lacking r e1 e2 true e = absurd (no_one (look_of node s room) refusal.Lacking lines at c (simp (r, e1, e2, e)) h)

      by_damaged : ltb room least ≡ false → short s ≡ false → (b : Bool) → damaged s ≡ b → Wanted
      by_damaged r e1 false e = by_lacking r e1 e (lacking (fields_at s) (prefix_at s)) refl
      by_damaged r e1 true e = absurd (no_one (look_of node s room) refusal.Damaged lines at c (simp (r, e1, e)) h)

      by_short : ltb room least ≡ false → (b : Bool) → short s ≡ b → Wanted
      by_short r false e = by_damaged r e (damaged s) refl
      by_short r true e = absurd (no_one (look_of node s room) refusal.Short lines at c (simp (r, e)) h)

      by_room : (b : Bool) → ltb room least ≡ b → Wanted
      by_room true e = absurd (no_one (look_of node s room) (refusal.Small least) lines at c (simp (e)) h)
      by_room false e = by_short e (short s) refl

-- ---- the prefix of a packet that was read

module _ (s : List ℕ) (f : Fields) (n start x : ℕ) (e : read_of s ≡ finds f n start x) where
  pub prefix_lies : (n ≤ most_prefix) × (payload_at n ≤ length s)
  prefix_lies =
      let a = accepted s f n start x e in (
        subst (λ (k : ℕ). k ≤ most_prefix) a.prefix (sound (fields_at s) (prefix_at s) (length_at s) a.base a.plain).prefix,
        omega (arith, sourced s a.long, a.prefix),
      )
