-- What is read after a `reload` line, once the item of its request is appended.
use Rattle.std.proofs.Common.{◌≡◌, ℕ, List, [], ◌∷◌, length, take, get_or, Option, Some, None, refl}
use Rattle.std.proofs.Common.{◌≤◌, length-take-le}
use Rattle.std.proofs.Math.Seq.{get_or-append_seam, take-append_seam}
use Rattle.sm_wire.specs.declared.item.Item.{Item}
use Rattle.sm_wire.specs.declared.item.Item.TheVariants.{Asked}
use Rattle.sm_wire.specs.declared.kind.Kind.{Kind}
use Rattle.sm_wire.specs.declared.frame_state.FrameState.{FrameState}
use Rattle.sm_wire.specs.declared.reload_header.ReloadHeader.{ReloadHeader}
use Rattle.sm_wire.specs.declared.request.Request.{Request, TheVariants.Reload}
use Rattle.sm_wire.specs.Grammar.{request_of, header_of}
use Rattle.sm_wire.specs.Giving.{Appended}
use Rattle.sm_wire.specs.Items.{Makes, line_end, text_start}

-- A `reload` line leaves no item, and its files are read.
reload_taken : (kind : Kind) (line : List ℕ) (o : Option Request) (old new last : List Item) (item : Item)
    (h : ReloadHeader) (mode : FrameState) → request_of kind line ≡ o → Appended o old new
    → item ≡ get_or new (length old) item → item ≡ Asked (Reload h.expected h.rules h.contexts)
    → Makes (text_start kind h) kind mode [] (take (length old) new) last
    → Makes (line_end kind line) kind mode [] old last
unfolding line_end header_of
reload_taken kind line (Some r) old new last item h mode e is found reload begins =
    let asked : item ≡ Asked r = rw (is, get_or-append_seam old (Asked r) [] item) at found in
    let request : r ≡ Reload h.expected h.rules h.contexts = cc in
    let header : header_of kind line ≡ Some h = rw (e, request) refl in
    let ends : line_end kind line ≡ text_start kind h = rw header refl in
    let back : take (length old) new ≡ old = rw is (take-append_seam old (Asked r ∷ [])) in
    rw ends (rw back at begins)
reload_taken kind line None old new last item h mode e is found reload begins = absurd is

pub appended_front : (o : Option Request) (old new : List Item) → Appended o old new → take (length old) new ≡ old
appended_front (Some r) old new is = rw is (take-append_seam old (Asked r ∷ []))
appended_front None old new is = absurd is

pub line_reload : (kind : Kind) (line : List ℕ) (count : ℕ) (new last : List Item) (item : Item) (h : ReloadHeader)
    (mode : FrameState) → count ≤ length new → Appended (request_of kind line) (take count new) new
    → item ≡ get_or new count item → item ≡ Asked (Reload h.expected h.rules h.contexts)
    → Makes (text_start kind h) kind mode [] (take count new) last
    → Makes (line_end kind line) kind mode [] (take count new) last
line_reload kind line count new last item h mode le is found reload begins =
    let n : length (take count new) ≡ count = length-take-le count new le in
    reload_taken kind line (request_of kind line) (take count new) new last item h mode refl is (rw n found) reload
    (rw n begins)
