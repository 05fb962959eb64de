-- The entry for C that compiles a role.
pub mod RoleEntry
