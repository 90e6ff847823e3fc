-- `audit::lies_within` meets its contract. Assumes nothing.
use Rattle.audit.proofs.AuditBlocks.{within_told}
use Rattle.audit.proofs.lies_within.Goals as goal

pub returns : goal.returns
returns c = within_told c.args.part c.args.whole c.ranges.part.fits c.ranges.whole.fits
