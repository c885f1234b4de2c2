-- Tickets whose limits, wishes and keys are numbers, with sums as terms.
pub mod Term
pub mod Ticket
pub mod Promise
pub mod Code
