use Rattle.std.proofs.Common.{arith}
use Rattle.spa_format.specs.Kind.{bool_kind, id_kind, int_kind, long_kind, float_kind, double_kind, rectangle_kind, fraction_kind, fd_kind}
use Rattle.spa_read.proofs.Replaced.{kind_stays}
use Rattle.spa_read.proofs.lenient.stays_choice.Goals as goal

pub returns-in-Bool : goal.returns-in-Bool
returns-in-Bool c = kind_stays bool_kind c.args.type_ (omega arith) (omega arith)

pub returns-in-Id : goal.returns-in-Id
returns-in-Id c = kind_stays id_kind c.args.type_ (omega arith) (omega arith)

pub returns-in-Int : goal.returns-in-Int
returns-in-Int c = kind_stays int_kind c.args.type_ (omega arith) (omega arith)

pub returns-in-Long : goal.returns-in-Long
returns-in-Long c = kind_stays long_kind c.args.type_ (omega arith) (omega arith)

pub returns-in-Float : goal.returns-in-Float
returns-in-Float c = kind_stays float_kind c.args.type_ (omega arith) (omega arith)

pub returns-in-Double : goal.returns-in-Double
returns-in-Double c = kind_stays double_kind c.args.type_ (omega arith) (omega arith)

pub returns-in-Rectangle : goal.returns-in-Rectangle
returns-in-Rectangle c = kind_stays rectangle_kind c.args.type_ (omega arith) (omega arith)

pub returns-in-Fraction : goal.returns-in-Fraction
returns-in-Fraction c = kind_stays fraction_kind c.args.type_ (omega arith) (omega arith)

pub returns-in-Fd : goal.returns-in-Fd
returns-in-Fd c = kind_stays fd_kind c.args.type_ (omega arith) (omega arith)
