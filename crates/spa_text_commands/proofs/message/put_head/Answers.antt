use Rattle.std.proofs.Common.{◌++◌, ◌∙◌, ap, rules, string_bytes, of_z, to_z, w32, w64, option_map, ℕ, ℤ, List, Option}
use mir.Val.{SFits}
use Rattle.std.proofs.lemmas.Int.{to_z-of_z}
use Rattle.std.proofs.lemmas.Result.{on_ok_weaker}
use Rattle.spa_text_commands.specs.Messages.{method_text, time_text, whose_text}
use Rattle.spa_text_commands.proofs.Heads.{head_put}
use Rattle.spa_text_commands.proofs.message.put_head.Goals as goal

pub returns : goal.returns
returns c =
    let head = c.args.head in
    let method : Option (List ℕ) = option_map (λ s. s.now) head.method in
    let client : SFits w32 head.client = search rules in
    let object : SFits w32 head.object = search rules in
    let opcode : SFits w32 head.opcode = search rules in
    let time : SFits w64 head.time = search rules in
    let whose : ℤ → List ℕ → ℤ → List ℕ = λ a n b. string_bytes c.put_way.new.text ++ whose_text a n b in
    let name = c.name_or_object.result.now in
    on_ok_weaker c.put_method.result
    (λ put. head_put _ _ _ _ _ (time_text head.time) _ _ (method_text method head.opcode)
    (c.in_ok-put_time.ensures ∙ ap (λ t. string_bytes c.args.text.now ++ time_text t) (to_z-of_z w64 head.time time)) c.in_ok-put_way.ensures
    (c.in_ok-put_whose.ensures
    ∙ ap (λ a. whose a name (to_z w32 (of_z w32 head.object))) (to_z-of_z w32 head.client client)
    ∙ ap (λ b. whose head.client name b) (to_z-of_z w32 head.object object)
    ∙ ap (λ n. whose head.client n head.object) c.name_or_object.ensures)
    (put ∙ ap (λ z. string_bytes c.put_whose.new.text ++ method_text method z) (to_z-of_z w32 head.opcode opcode)))
    c.put_method.ensures
