-- `packet::writing::lay_head` meets its contract: the front, the prefix and the source address are laid down one after the other.
use native.Mathlib.Omega.{arith}
use Rattle.packet.proofs.WriteLaws.{headed}
use Rattle.packet.proofs.writing.lay_head.Goals as goal

pub returns : goal.returns
returns c =
    let a = c.args in
    headed
    a.f
    _
    a.prefix.now
    a.out.now
    _
    _
    _
    a.count
    c.front_of-front.ensures
    c.requires.1
    c.copy_from_slice.ensures.after
    c.copy_from_slice-2.ensures.after
    (omega arith)
