use Rattle.std.proofs.Common.{[], ◌∷◌, codes, decimal}
use Rattle.std.proofs.lemmas.Result.{on_ok_weaker}
use Rattle.json.specs.Token.{begin_object, key, number}
use Rattle.spa_text_forms.proofs.Appended.{one_more}
use Rattle.spa_text_forms.proofs.dump.put_head.Goals as goal

pub returns-clause-ok : goal.returns-clause-ok
returns-clause-ok c =
    let old = c.args.writer.now.tokens in
    let type = key (codes "type") in
    let of = number (decimal c.args.type_) in
    let name = key (codes "id") in
    let its = number (decimal c.args.id) in
    let props = key (codes "props") in
    let two =
    one_more old (begin_object ∷ []) c.begin_object.new.self.tokens c.key.new.self.tokens type c.in_ok-begin_object.ensures.ok c.in_ok-key.ensures.ok in
    let three = one_more old (begin_object ∷ type ∷ []) c.key.new.self.tokens c.u64.new.self.tokens of two c.in_ok-u64.ensures.ok in
    let four = one_more old (begin_object ∷ type ∷ of ∷ []) c.u64.new.self.tokens c.key-2.new.self.tokens name three c.in_ok-key-2.ensures.ok in
    let five = one_more old (begin_object ∷ type ∷ of ∷ name ∷ []) c.key-2.new.self.tokens c.u64-2.new.self.tokens its four c.in_ok-u64-2.ensures.ok in
    on_ok_weaker c.key-3.result
    (λ six. one_more old (begin_object ∷ type ∷ of ∷ name ∷ its ∷ []) c.u64-2.new.self.tokens c.key-3.new.self.tokens props five six)
    c.key-3.ensures.ok
