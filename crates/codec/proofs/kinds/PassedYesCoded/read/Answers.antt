use Rattle.codec.specs.Things.{passed_kind, ticket_body_format, tied}
use Rattle.codec.proofs.Steps.{pair_kind, pair_first, pair_second, pair_on}
use Rattle.codec.proofs.kinds.PassedYesCoded.read.Goals as goal

pub returns-in_err-read_kind : goal.returns-in_err-read_kind
returns-in_err-read_kind c = pair_kind passed_kind ticket_body_format tied _ c.from_residual.result c.from_residual.ensures.1 c.in_err-read_kind.ensures

pub returns-in_err-ticket : goal.returns-in_err-ticket
returns-in_err-ticket c = pair_first passed_kind ticket_body_format tied _ c.from_residual-in_err-ticket.result c.from_residual-in_err-ticket.ensures.1 c.in_ok-read_kind.ensures c.in_err-ticket.ensures

pub returns-in_err-yes : goal.returns-in_err-yes
returns-in_err-yes c = pair_second passed_kind ticket_body_format tied _ c.from_residual-in_err-yes.result c.from_residual-in_err-yes.ensures.1 c.in_ok-read_kind.ensures c.in_ok-ticket.ensures c.in_err-yes.ensures

pub returns : goal.returns
returns c = pair_on passed_kind ticket_body_format tied c.in_ok-read_kind.ensures c.in_ok-ticket.ensures c.in_ok-yes.ensures
