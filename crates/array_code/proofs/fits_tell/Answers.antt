use Rattle.array_code.proofs.Fitted as laws
use Rattle.array_code.proofs.fits_tell.Goals as goal

pub returns-clause-deep : goal.returns-clause-deep
returns-clause-deep c = laws.deep_fits_tell

pub returns-clause-flat : goal.returns-clause-flat
returns-clause-flat c = laws.flat_fits_tell

pub returns-clause-short : goal.returns-clause-short
returns-clause-short c = laws.short_fits_go
