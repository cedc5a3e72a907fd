-- Buffers of an engine.
use Rattle.std.specs.Prelude.{◌≡◌, []}
use Rattle.sm_engine.specs.declared.buffers.Buffers.{Buffers}

-- The buffers are empty.
abbrev pub IsIdle : Buffers → Type 0
IsIdle b = (b.items.items ≡ []) × (b.replies.items ≡ []) × (b.lines.items ≡ [])
