-- What a server tells its owner of its workers.
use Rattle.std.specs.Prelude.{ℕ, List, ◌++◌, codes}
use Rattle.sm_values.specs.Messages.{numbered}
use Rattle.sm_serve.specs.declared.load.Load.{Load}

-- These are the lines `workers BUSY OF` and `waiting N`.
unfoldable pub load_text : Load → List ℕ
load_text l =
    numbered (codes "workers ") l.busy ++ numbered (codes " ") l.workers ++ numbered (codes "\nwaiting ") l.waiting
    ++ codes "\n"
