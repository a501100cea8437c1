-- `crc::by_falls` meets its contract. The invariant: the four words, going on over what is left, give the check sum of the whole.
use Prim.Native.Nat.{ℕ, ◌+◌, ◌*◌, ◌≤◌}
use mathlib.Core.Path.{◌≡◌, ap, ◌∙◌}
use mathlib.Core.List.{[], ◌∷◌}
use native.Mathlib.Omega.{arith}
use lib.ListN.{length, drop}
use Rattle.crc.specs.Crc.{crc_from}
use Rattle.crc.specs.Words.{words_into}
use Rattle.crc.proofs.Over.{crc_fifth}
use Rattle.crc.proofs.by_falls.Goals as goal

pub loop-k-preserved : goal.loop-k-preserved
loop-k-preserved c =
    let at = c.loop-k in
    let f = at.four in
    let g = c.fall-four.result in
    let known = c in
    let l = known.args.s.now in
    let h : 8 * at.k + 8 ≤ length l = omega arith in
    let e : 8 * (at.k + 1) ≡ 8 * at.k + 8 = omega arith in
    ap (λ (x : ℕ). crc_from (words_into 0 (g.a ∷ g.b ∷ g.c ∷ g.d ∷ [])) (drop x l)) e
    ∙ ap (λ (x : ℕ). crc_from x (drop (8 * at.k + 8) l))
    (c.fall-four.ensures ∙ ap (λ (w : ℕ). words_into 0 (f.a ∷ f.b ∷ f.c ∷ f.d ∷ w ∷ [])) c.word_at-in-loop-k.ensures)
    ∙ crc_fifth f.a f.b f.c f.d l (8 * at.k) (λ k. (known.type_inv.s k).fits) h
    ∙ at.invariant
