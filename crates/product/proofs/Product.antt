-- The functions by their own crates' proofs, the promises by their pages'.
use Rattle.promises.proofs.Promises.{promises}
use Rattle.product.specs.Product.{Product}
use Rattle.product.proofs.Functions.{functions}
use Rattle.product.proofs.RoleFunctions.{role_functions}
use Rattle.product.proofs.ReadFunctions.{read_functions}

pub product : {M : Type 1} → Product M
product = record { functions = functions; role_functions = role_functions; read_functions = read_functions; promises = promises }
