use Rattle.std.proofs.lemmas.Result.{IfOk-weaker}
use Rattle.toml.specs.Data.{table}
use Rattle.toml.specs.View.{table_view}
use Rattle.gw_settings.specs.Tree.{IsText}
use Rattle.gw_config.specs.Document.{Spells}
use Rattle.config_text.proofs.ConfigBack.{members_shallow, text_back}
use Rattle.config_text.proofs.print.print_config.Goals as goal

pub document-requires : goal.document-requires
document-requires c = members_shallow (table_view c.in_ok-members.members) c.args.config.now c.in_ok-members.ensures.printed

pub returns : goal.returns
returns c =
    IfOk-weaker c.document.result (λ text. IsText text (table (table_view c.in_ok-members.members))) (λ text. Spells text c.args.config.now)
    (λ text is. text_back text (table_view c.in_ok-members.members) c.args.config.now is c.in_ok-members.ensures.printed c.in_ok-members.ensures.lawful c.in_ok-members.ensures.each)
    c.document.ensures
