-- The set for an answer whose contract chooses by tests on numbers: each test is settled by the fact that led there.
-- Assumes nothing.
use borrow.Author.Rules.{rules}
use borrow.Author.Tests.{lt-ltb, le-ltb, le-leb, lt-leb, eq-eqb, ne_eqb}

pub ruleset settle = (lt-ltb, le-ltb, le-leb, lt-leb, eq-eqb, ne_eqb, rules)
