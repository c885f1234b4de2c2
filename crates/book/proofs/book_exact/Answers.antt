use Rattle.book.proofs.Books.{book_exact}
use Rattle.book.proofs.book_exact.Goals as goal

pub returns : goal.returns
returns c = book_exact
