-- `packet::reading::read_packet` meets its contract: each test's own contract settles a choice of `read_of`.
use mathlib.Core.Path.{sym, ap₂, ◌∙◌}
use native.Mathlib.Omega.{arith}
use Rattle.packet.specs.Tests.{lacking, strange}
use Rattle.packet.proofs.Tests.{long, sourced}
use Rattle.packet.proofs.ReadLaws.{read_short, read_damaged, read_lacking, read_strange, read_found}
use Rattle.packet.proofs.reading.read_packet.Goals as goal

pub returns-then-is_short : goal.returns-then-is_short
returns-then-is_short c =
    let s = c.args.packet.now in
    let t1 = sym c.is_short.ensures ∙ c.if-is_short.true in
    sym (read_short s t1)

pub is_damaged-requires : goal.is_damaged-requires
is_damaged-requires c = let s = c.args.packet.now in long s (sym c.is_short.ensures ∙ c.if-is_short.false)

pub returns-then-is_damaged : goal.returns-then-is_damaged
returns-then-is_damaged c =
    let s = c.args.packet.now in
    let t1 = sym c.is_short.ensures ∙ c.if-is_short.false in
    let t2 = sym c.is_damaged.ensures ∙ c.if-is_damaged.true in
    sym (read_damaged s t1 t2)

pub prefix_at-prefix-requires : goal.prefix_at-prefix-requires
prefix_at-prefix-requires c = let s = c.args.packet.now in long s (sym c.is_short.ensures ∙ c.if-is_short.false)

pub fields_at-fields-requires : goal.fields_at-fields-requires
fields_at-fields-requires c =
    let s = c.args.packet.now in
    let n = c.prefix_at-prefix.ensures.0 in
    let room = sourced s (sym c.is_short.ensures ∙ c.if-is_short.false) in
    (n, omega arith)

pub returns-then-is_lacking : goal.returns-then-is_lacking
returns-then-is_lacking c =
    let s = c.args.packet.now in
    let t1 = sym c.is_short.ensures ∙ c.if-is_short.false in
    let t2 = sym c.is_damaged.ensures ∙ c.if-is_damaged.false in
    let n = c.prefix_at-prefix.ensures.0 in
    let f = c.fields_at-fields.ensures in
    let t4 = ap₂ lacking (sym f) (sym n) ∙ sym c.is_lacking.ensures ∙ c.if-is_lacking.true in
    sym (read_lacking s t1 t2 t4)

pub length_at-length-requires : goal.length_at-length-requires
length_at-length-requires c = let s = c.args.packet.now in long s (sym c.is_short.ensures ∙ c.if-is_short.false)

pub returns-then-is_strange : goal.returns-then-is_strange
returns-then-is_strange c =
    let s = c.args.packet.now in
    let t1 = sym c.is_short.ensures ∙ c.if-is_short.false in
    let t2 = sym c.is_damaged.ensures ∙ c.if-is_damaged.false in
    let n = c.prefix_at-prefix.ensures.0 in
    let f = c.fields_at-fields.ensures in
    let t4 = ap₂ lacking (sym f) (sym n) ∙ sym c.is_lacking.ensures ∙ c.if-is_lacking.false in
    let x = c.length_at-length.ensures.0 in
    let t3 = ap₂ strange (sym f) (sym x) ∙ sym c.is_strange.ensures ∙ c.if-is_strange.true in
    sym (read_strange s t1 t2 t4 t3)

pub returns : goal.returns
returns c =
    let s = c.args.packet.now in
    let t1 = sym c.is_short.ensures ∙ c.if-is_short.false in
    let t2 = sym c.is_damaged.ensures ∙ c.if-is_damaged.false in
    let n = c.prefix_at-prefix.ensures.0 in
    let f = c.fields_at-fields.ensures in
    let t4 = ap₂ lacking (sym f) (sym n) ∙ sym c.is_lacking.ensures ∙ c.if-is_lacking.false in
    let x = c.length_at-length.ensures.0 in
    let t3 = ap₂ strange (sym f) (sym x) ∙ sym c.is_strange.ensures ∙ c.if-is_strange.false in
    rw (f, n, x) (sym (read_found s t1 t2 t4 t3))
