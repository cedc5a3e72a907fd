use Rattle.sm_history.proofs.BookOrder.{book_before, book_behind, book_through, before_change}
use Rattle.sm_history.proofs.TokensGrow.{no_less, stays_lawful, goes_on, no_change}
use Rattle.sm_history.proofs.Staying.{client_stays}
use Rattle.sm_history.proofs.promises.books.Goals as goal

pub returns-clause-before : goal.returns-clause-before
returns-clause-before c = book_before

pub returns-clause-behind : goal.returns-clause-behind
returns-clause-behind c = book_behind

pub returns-clause-through : goal.returns-clause-through
returns-clause-through c = book_through

pub returns-clause-cut : goal.returns-clause-cut
returns-clause-cut c = before_change

pub returns-clause-lawful : goal.returns-clause-lawful
returns-clause-lawful c = stays_lawful

pub returns-clause-grows : goal.returns-clause-grows
returns-clause-grows c = no_less

pub returns-clause-segment : goal.returns-clause-segment
returns-clause-segment c = goes_on

pub returns-clause-client : goal.returns-clause-client
returns-clause-client c = client_stays

pub returns-clause-seal : goal.returns-clause-seal
returns-clause-seal c = no_change
