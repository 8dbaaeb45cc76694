-- The slabs of a class of lengths, as a store counts them.
use Rattle.blocks.specs.declared.ClassUse.{ClassUse}
use Rattle.plain_model.specs.ConnectionSteps.{ClassSlabs}

abbrev pub class_used : ClassUse → ClassSlabs
class_used class = record { size = class.size; slabs = class.slabs; used = class.used }
