use Rattle.step_files.proofs.ShortFacts.{product_short}
use Rattle.step_check.proofs.files.is_product_text.Goals as goal

pub product_file-requires : goal.product_file-requires
product_file-requires c = product_short c.args.task.now c.args.product.now c.requires.task c.requires.product
