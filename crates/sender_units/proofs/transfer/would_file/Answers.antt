-- `sender_units::transfer::would_file` meets its contract: where the largest number stands for what is filed, both are too long.
use mathlib.Core.Path.{ap, ◌∙◌}
use native.Mathlib.Omega.{arith}
use Rattle.channel.specs.Pairs.{filed_count}
use Rattle.sender_units.specs.Transfer.{would_transfer}
use Rattle.sender_units.proofs.UnitLaws.{would_capped}
use Rattle.sender_units.proofs.transfer.would_file.Goals as goal

pub returns : goal.returns
returns c =
    let a = c.args in
    c.would_transfer.ensures
    ∙ ap (would_transfer a.c) c.filed_size.ensures
    ∙ would_capped a.c c.requires (filed_count a.c.limits a.n) 18446744073709551615 (omega arith)
