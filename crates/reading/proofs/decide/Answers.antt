use Rattle.branches.proofs.Branches.{branches}
use Rattle.reading.proofs.Firsts.{by_tests}
use Rattle.reading.proofs.decide.Goals as goal

-- `reading::decide` meets its contract: each answer is computed by the tests that led to it.
-- Assumes nothing.

pub returns-then-n-eq0 : goal.returns-then-n-eq0
returns-then-n-eq0 c = rw by_tests (search branches)

pub returns-then-rule-a : goal.returns-then-rule-a
returns-then-rule-a c = rw by_tests (search branches)

pub returns-then-n-a : goal.returns-then-n-a
returns-then-n-a c = rw (by_tests, c.if-rule-a.false) (search branches)

pub returns-then-n-a-2 : goal.returns-then-n-a-2
returns-then-n-a-2 c = rw (by_tests, c.if-rule-a.false) (search branches)

pub returns-then-n-begins : goal.returns-then-n-begins
returns-then-n-begins c = rw (by_tests, c.if-rule-a.false) (search branches)

pub returns-then-n-begins-2 : goal.returns-then-n-begins-2
returns-then-n-begins-2 c = rw (by_tests, c.if-rule-a.false) (search branches)

pub returns : goal.returns
returns c = rw (by_tests, c.if-rule-a.false) (search branches)
