use Rattle.std.proofs.Common.{vec_items, ap, ◌∙◌, ap₂}
use Rattle.std.proofs.lemmas.Result.{MatchResult-weaker}
use Rattle.mirror.specs.Means as mirror
use Rattle.offset.specs.Means as offset
use Rattle.stacks.proofs.Applies.{applies}
use Rattle.stacks.proofs.promised.play_on_stack.Goals as goal

pub returns : goal.returns
returns c =
    let sides = ap₂ mirror.set_up c.in_ok-drive.ensures.1 c.in_ok-disk.ensures.1 in
    let kept = c.new-mirror.ensures.keeps tt tt in
    let means = c.new-stack.ensures.means kept ∙ ap (offset.set_up c.args.base c.args.most) (c.new-mirror.ensures.means tt tt ∙ sides) in
    MatchResult-weaker c.send_all.result (c.send_all.ensures.heard (c.new-stack.ensures.keeps kept)) (λ log s. applies (vec_items log) means s) (λ _ _. tt)
