-- An answer under another type.
use Rattle.std.specs.Prelude.{eqb}
use Rattle.walks_sample.specs.declared.plain.Told.{Told}
use Rattle.walks_sample.specs.declared.plain.Said.{Said}

abbrev pub said : Told → Said
said a = record { code = a.code; done = eqb a.code 0 }
