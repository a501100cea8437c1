-- Laws of the kinds of packets and their codes: each is the inverse of the other.
-- Assumes nothing.
use mathlib.Core.Path.{◌≡◌, refl, sym, subst}
use mathlib.Core.Bool.{true, false, false≢true}
use Prim.Native.Nat.{ℕ, ◌≤◌, ◌<◌}
use native.Mathlib.Omega.{arith}
use borrow.Author.Tests.{eqb-true}
use lib.Dec.{eqb}
use Rattle.laws.specs.Choice.{if◌then◌else◌}
use Rattle.laws.proofs.Choice.{by_test}
use Rattle.packet.specs.declared.kinds.Kind.{Kind}
use Rattle.packet.specs.declared.kinds.Kind.TheVariants.{Data, DataAck, Open, Close, Heartbeat, HeartbeatAck, FlowControl, ControlAck, Lacking}
use Rattle.packet.specs.Kinds.{code_of, kind_of, carried, most_carried}

-- the kind of a code has that code
pub code_back : (code : ℕ) → code_of (kind_of code) ≡ code
unfolding kind_of
code_back code =
    told Data _ (λ _. told DataAck _ (λ _. told Open _ (λ _. told Close _ (λ _. told Heartbeat _ (λ _. told HeartbeatAck _ (λ _. told FlowControl _ (λ _. told ControlAck _ (λ _. refl))))))))
  where
    told : (k rest : Kind) → (eqb code (code_of k) ≡ false → code_of rest ≡ code) → code_of (if eqb code (code_of k) then k else rest) ≡ code
    told k rest next = by_test (λ (x : Kind). code_of x ≡ code) (eqb code (code_of k)) k rest (λ e. sym (eqb-true code (code_of k) e)) next

-- a kind that is carried is the kind of its code
pub kind_back : (k : Kind) → carried k ≡ true → kind_of (code_of k) ≡ k
unfolding kind_of
kind_back Data e = refl
kind_back DataAck e = refl
kind_back Open e = refl
kind_back Close e = refl
kind_back Heartbeat e = refl
kind_back HeartbeatAck e = refl
kind_back FlowControl e = refl
kind_back ControlAck e = refl
kind_back (Lacking code) e = absurd (false≢true e)

-- and that code has three bits
pub carried_small : (code : ℕ) → carried (kind_of code) ≡ true → code < 8
carried_small code e = subst (λ (n : ℕ). n < 8) (code_back code) (small (kind_of code) e)
  where
    small : (k : Kind) → carried k ≡ true → code_of k < 8
    small Data e = omega arith
    small DataAck e = omega arith
    small Open e = omega arith
    small Close e = omega arith
    small Heartbeat e = omega arith
    small HeartbeatAck e = omega arith
    small FlowControl e = omega arith
    small ControlAck e = omega arith
    small (Lacking code) e = absurd (false≢true e)

-- no packet but Data carries more than one octet
pub few_carried : (k : Kind) → most_carried k ≤ 1
few_carried Data = omega arith
few_carried DataAck = omega arith
few_carried Open = omega arith
few_carried Close = omega arith
few_carried Heartbeat = omega arith
few_carried HeartbeatAck = omega arith
few_carried FlowControl = omega arith
few_carried ControlAck = omega arith
few_carried (Lacking code) = omega arith
