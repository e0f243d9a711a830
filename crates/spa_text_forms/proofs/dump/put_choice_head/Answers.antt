use Rattle.std.proofs.Common.{[], ◌∷◌, codes}
use Rattle.std.proofs.lemmas.Result.{on_ok_weaker}
use Rattle.json.specs.Token.{begin_array, begin_object, key, string}
use Rattle.spa_text_forms.proofs.Appended.{one_more}
use Rattle.spa_text_forms.proofs.dump.put_choice_head.Goals as goal

pub returns-clause-ok : goal.returns-clause-ok
returns-clause-ok c =
    let old = c.args.writer.now.tokens in
    let tag = key (codes "choice") in
    let name = string c.args.shape.now in
    let list = key (codes "values") in
    let two =
    one_more old (begin_object ∷ []) c.begin_object.new.self.tokens c.key.new.self.tokens tag c.in_ok-begin_object.ensures.ok c.in_ok-key.ensures.ok in
    let three = one_more old (begin_object ∷ tag ∷ []) c.key.new.self.tokens c.string.new.self.tokens name two c.in_ok-string.ensures.ok in
    let four = one_more old (begin_object ∷ tag ∷ name ∷ []) c.string.new.self.tokens c.key-2.new.self.tokens list three c.in_ok-key-2.ensures.ok in
    on_ok_weaker c.begin_array.result
    (λ five. one_more old (begin_object ∷ tag ∷ name ∷ list ∷ []) c.key-2.new.self.tokens c.begin_array.new.self.tokens begin_array four five)
    c.begin_array.ensures.ok
