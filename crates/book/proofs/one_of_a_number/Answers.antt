use Rattle.book.proofs.Books.{one_of_a_number}
use Rattle.book.proofs.one_of_a_number.Goals as goal

pub returns : goal.returns
returns c = one_of_a_number
