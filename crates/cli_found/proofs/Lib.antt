mod Prelude
