-- Start here: the functions that ship, and all that is promised of what they give.
use Rattle.promises.specs.Promises.{Promises}
use Rattle.product.specs.Functions.{Functions}
use Rattle.product.specs.RoleFunctions.{RoleFunctions}
use Rattle.product.specs.ReadFunctions.{ReadFunctions}

pub record Product (M : Type 1) : Type 2 where
  -- the functions meet their contracts, and what the contracts say is what the promises speak of
  pub functions : Functions M
  pub role_functions : RoleFunctions M
  pub read_functions : ReadFunctions M
  -- what that amounts to, in document 01's words, a page a demand
  pub promises : Promises
