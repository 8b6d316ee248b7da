use Rattle.std.proofs.Common.{arith, rules}
use Rattle.mj_log.proofs.Headers.{header_whole, header_short}
use Rattle.mj_log.proofs.walk.header_of.Goals as goal

pub returns-then-count-lt5 : goal.returns-then-count-lt5
returns-then-count-lt5 c bytes at within is = header_short bytes c.args.head at c.args.count (search rules) within is c.if-count-lt5.true

pub returns : goal.returns
returns c bytes at within is =
    header_whole bytes c.args.head at c.args.count c.from.result c.from-2.result c.from-3.result c.from-4.result (search rules) within is c.requires c.if-count-lt5.false
    c.from.ensures c.from-2.ensures c.from-3.ensures c.from-4.ensures (omega (arith, c.element_fits.fits, c.from.ensures)) (omega (arith, c.element_fits2.fits, c.from-2.ensures)) (omega (arith, c.element_fits3.fits, c.from-3.ensures)) (omega (arith, c.element_fits4.fits, c.from-4.ensures))
