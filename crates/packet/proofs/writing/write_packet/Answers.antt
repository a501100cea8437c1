-- `packet::writing::write_packet` meets its contract: the tests settle the answer, and the head, the payload and the check sum are laid
-- down one after the other.
use mathlib.Core.Path.{refl, sym, ◌∙◌}
use native.Mathlib.Omega.{arith}
use lib.ListN.{length}
use Rattle.packet.specs.Writing.{after_write}
use Rattle.packet.proofs.Tests.{sound}
use Rattle.packet.proofs.WriteLaws.{write_lacking, write_strange, write_small, write_done, filled, assembled}
use Rattle.packet.proofs.writing.write_packet.Goals as goal

pub returns-then-is_lacking : goal.returns-then-is_lacking
unfolding after_write
returns-then-is_lacking c =
    let a = c.args in
    let t4 = sym c.is_lacking.ensures ∙ c.if-is_lacking.true in
    (sym (write_lacking a.fields _ _ _ t4), refl)

pub returns-then-is_strange : goal.returns-then-is_strange
unfolding after_write
returns-then-is_strange c =
    let a = c.args in
    let t4 = sym c.is_lacking.ensures ∙ c.if-is_lacking.false in
    let t3 = sym c.is_strange.ensures ∙ c.if-is_strange.true in
    (sym (write_strange a.fields _ _ _ t4 t3), refl)

pub overflow_add-whole-2 : goal.overflow_add-whole-2
overflow_add-whole-2 c =
    let a = c.args in
    let t4 = sym c.is_lacking.ensures ∙ c.if-is_lacking.false in
    let t3 = sym c.is_strange.ensures ∙ c.if-is_strange.false in
    let w = sound a.fields (length a.prefix.now) (length a.payload.now) t4 t3 in
    record { fits = omega (arith, w.prefix, w.payload) }

pub returns-then-out-whole : goal.returns-then-out-whole
unfolding after_write
returns-then-out-whole c =
    let a = c.args in
    let t4 = sym c.is_lacking.ensures ∙ c.if-is_lacking.false in
    let t3 = sym c.is_strange.ensures ∙ c.if-is_strange.false in
    (sym (write_small a.fields _ _ _ t4 t3 (omega arith)), refl)

pub overflow_cast-length : goal.overflow_cast-length
overflow_cast-length c =
    let a = c.args in
    let t4 = sym c.is_lacking.ensures ∙ c.if-is_lacking.false in
    let t3 = sym c.is_strange.ensures ∙ c.if-is_strange.false in
    record { fits = (sound a.fields (length a.prefix.now) (length a.payload.now) t4 t3).payload }

pub lay_head-requires : goal.lay_head-requires
lay_head-requires c =
    let a = c.args in
    let t4 = sym c.is_lacking.ensures ∙ c.if-is_lacking.false in
    let t3 = sym c.is_strange.ensures ∙ c.if-is_strange.false in
    (sound a.fields (length a.prefix.now) (length a.payload.now) t4 t3, omega arith)

pub returns : goal.returns
unfolding after_write
returns c =
    let a = c.args in
    let t4 = sym c.is_lacking.ensures ∙ c.if-is_lacking.false in
    let t3 = sym c.is_strange.ensures ∙ c.if-is_strange.false in
    let q = a.prefix.now in
    let p = a.payload.now in (
      sym (write_done a.fields (length q) (length p) (length a.out.now) t4 t3 (omega arith)),
      assembled
          a.fields
          q
          p
          a.out.now
          _
          _
          (filled a.fields q p a.out.now _ _ _ c.lay_head.ensures c.copy_from_slice.ensures.after (omega arith))
          c.seal.ensures,
    )
