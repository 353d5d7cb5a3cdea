-- `codec::entries::narrowed` meets its contract, test by test.
use borrow.Author.Tests.{lt-ltb, le-ltb, eq-eqb, ne_eqb}
use Rattle.image.specs.Layouts.{narrow}
use Rattle.codec.proofs.entries.narrowed.Goals as goal

pub returns-then-v-eq16777214 : goal.returns-then-v-eq16777214
unfolding narrow
returns-then-v-eq16777214 c = rw (eq-eqb _ _ c.if-v-eq16777214.true)

pub returns-then-v-lt9728 : goal.returns-then-v-lt9728
unfolding narrow
returns-then-v-lt9728 c = rw (ne_eqb _ _ c.if-v-eq16777214.false, lt-ltb _ _ c.if-v-lt9728.true)

pub returns : goal.returns
unfolding narrow
returns c = rw (ne_eqb _ _ c.if-v-eq16777214.false, le-ltb _ _ c.if-v-lt9728.false)
