-- Whatever the pieces are in which a trace comes, its records are those of all its octets.
-- Assumes nothing.
use mathlib.Core.Path.{◌≡◌, refl, sym, ap, ◌∙◌}
use mathlib.Core.Bool.{Bool, true, false}
use mathlib.Core.List.{List, [], ◌∷◌, ◌++◌}
use Prim.Native.Nat.{ℕ}
use native.Mathlib.Omega.{arith}
use lib.ListN.{take, drop, drop_of_length-le}
use Rattle.engine.specs.Trace.{Entry, Records, is_whole, entry_of, after, records_from}
use Rattle.engine.specs.Reading.{held_in, given, behind, joined, ReadOn, used_up, fed, ReadAll, at_end, piece_read, AnyCutting}
use Rattle.engine.proofs.ReadingLaws.{held_on}

-- what comes later is read behind what was left
pub in_two : (held p q : List ℕ) → records_from held (p ++ q) ≡ behind (records_from held p).whole (records_from (records_from held p).left q)
unfolding records_from
in_two held [] q = refl
in_two held (o ∷ p) q = go (is_whole (held ++ (o ∷ []))) refl (in_two [] p q) (in_two (held ++ (o ∷ [])) p q)
  where
    go : (b : Bool) → is_whole (held ++ (o ∷ [])) ≡ b
        → records_from [] (p ++ q) ≡ behind (records_from [] p).whole (records_from (records_from [] p).left q)
        → records_from (held ++ (o ∷ [])) (p ++ q) ≡ behind (records_from (held ++ (o ∷ [])) p).whole (records_from (records_from (held ++ (o ∷ [])) p).left q)
        → records_from held ((o ∷ p) ++ q) ≡ behind (records_from held (o ∷ p)).whole (records_from (records_from held (o ∷ p)).left q)
    go true e next more = simp (e) (ap (after (entry_of (held ++ (o ∷ [])))) next)
    go false e next more = simp (e) more

-- the calls over one piece
over_piece : {piece : List ℕ} {from held left : ℕ} {before buffer : List ℕ} {es : List Entry} → ReadOn piece from held before es left buffer
    → records_from (held_in held before) (drop from piece) ≡ record { whole = es; left = held_in left buffer }
unfolding records_from
over_piece {piece} (used_up {from} {held} {buffer} h) = ap (records_from (held_in held buffer)) (drop_of_length-le piece h)
over_piece (fed {from} {held} {left} {before} {buffer} {after} {es} {r} f rest) = f.gives ∙ ap (behind (given r buffer)) (over_piece rest)

over_pieces : {pieces : List (List ℕ)} {held left : ℕ} {before buffer : List ℕ} {es : List Entry} → ReadAll pieces held before es left buffer
    → records_from (held_in held before) (joined pieces) ≡ record { whole = es; left = held_in left buffer }
unfolding records_from
over_pieces at_end = refl
over_pieces (piece_read {piece} {pieces} {held} {between} {left} {before} {buffer} {after} {es} {more} one others) =
    in_two (held_in held before) piece (joined pieces)
    ∙ ap (λ (r : Records). behind r.whole (records_from r.left (joined pieces))) (over_piece one)
    ∙ ap (behind es) (over_pieces others)

pub any_cutting : AnyCutting
any_cutting pieces before es left buffer R = ap (λ (n : ℕ). records_from (take n before) (joined pieces)) (sym (held_on 0 before (omega arith))) ∙ over_pieces R
