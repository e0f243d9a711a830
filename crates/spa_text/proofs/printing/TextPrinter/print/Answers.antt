use Rattle.std.proofs.Common.{◌≡◌, ℕ, List, ◌++◌, Result, Ok, Err, ap, ◌∙◌}
use Rattle.std.specs.Prelude.{OnOk, if◌then◌else◌, is_ok}
use Rattle.std.specs.Str.{IsUtf8}
use Rattle.spa_format.specs.Tree.{Tree}
use Rattle.spa_value.specs.View.{view}
use Rattle.spa_text_read.specs.Grammar.{IsTextOf}
use Rattle.spa_text.specs.Line.{HasNoEnd}
use Rattle.spa_text.specs.Printed as printed
use Rattle.spa_text.proofs.printing.TextPrinter.print.Goals as goal

appended : {A E : Type 0} (r : Result A E) (v : Tree) (old new text : List ℕ) → new ≡ (if is_ok r then old ++ text else old) → IsUtf8 text →
    IsTextOf v text → HasNoEnd text →
    OnOk r ((x : List ℕ) × (new ≡ old ++ x) × IsUtf8 x × IsTextOf v x × HasNoEnd x)
appended (Ok x) v old new text e u r h = (text, e, u, r, h)
appended (Err x) v old new text e u r h = tt

pub returns-clause-printed : goal.returns-clause-printed
returns-clause-printed c =
    let old = c.args.out.now.items in
    let line = c.in_ok-line.ensures in
    let items = c.extend_from_slice-added.ensures.items ∙ ap (λ t. if is_ok c.extend_from_slice-added.result then old ++ t else old) c.as_slice.ensures.value in
    appended c.extend_from_slice-added.result (view c.args.value.now) old _ c.in_ok-line.line.items items line.utf8 line.reads line.no_end

exactly : {A E P : Type 0} (r : Result A E) (old new text line : List ℕ) → new ≡ (if is_ok r then old ++ text else old) → (P → text ≡ line) →
    OnOk r (P → new ≡ old ++ line)
exactly (Ok x) old new text line e l = λ h. e ∙ ap (λ t. old ++ t) (l h)
exactly (Err x) old new text line e l = tt

pub returns-clause-exact : goal.returns-clause-exact
returns-clause-exact c =
    let old = c.args.out.now.items in
    let items = c.extend_from_slice-added.ensures.items ∙ ap (λ t. if is_ok c.extend_from_slice-added.result then old ++ t else old) c.as_slice.ensures.value in
    exactly c.extend_from_slice-added.result old _ c.in_ok-line.line.items (printed.line_of (view c.args.value.now)) items
    (λ h. (c.in_ok-line.ensures.exact h).0)
