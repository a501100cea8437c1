-- `crc::by_joins` meets its contract. The invariant: the word, going on over what is left, gives the check sum of the whole.
use Prim.Native.Nat.{ℕ, ◌+◌, ◌*◌, ◌≤◌}
use mathlib.Core.Path.{◌≡◌, ap, ◌∙◌}
use mathlib.Core.List.{[], ◌∷◌}
use native.Mathlib.Omega.{arith}
use lib.ListN.{length, drop}
use Rattle.crc.specs.Crc.{crc_from}
use Rattle.crc.specs.Words.{word_into, words_into}
use Rattle.crc.proofs.Over.{crc_word, into_lt}
use Rattle.crc.proofs.by_joins.Goals as goal

pub loop-k-preserved : goal.loop-k-preserved
unfolding words_into
loop-k-preserved c =
    let at = c.loop-k in
    let known = c in
    let l = known.args.s.now in
    let h : 8 * at.k + 8 ≤ length l = omega arith in
    let e : 8 * (at.k + 1) ≡ 8 * at.k + 8 = omega arith in
    ap (λ (x : ℕ). crc_from (words_into 0 (c.join-word.result ∷ [])) (drop x l)) e
    ∙ ap (λ (x : ℕ). crc_from x (drop (8 * at.k + 8) l)) (c.join-word.ensures ∙ ap (λ (w : ℕ). word_into (word_into 0 at.word) w) c.word_at.ensures)
    ∙ crc_word (word_into 0 at.word) l (8 * at.k) (into_lt 0 at.word) (λ k. (known.type_inv.s k).fits) h
    ∙ at.invariant
