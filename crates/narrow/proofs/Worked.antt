-- The worked cases hold by computation. Assumes nothing.
use Rattle.std.proofs.Common.{refl}
use Rattle.narrow.specs.Rows.{any, all, first, gather, same_row, begins_with}
use Rattle.narrow.specs.Can.{tried, yes_for, can_by, yeses_for, shows}
use Rattle.narrow.specs.Worked.{WorkedCases}

pub worked_cases : WorkedCases
unfolding any all first gather same_row begins_with tried yes_for can_by yeses_for shows
worked_cases = refl
