pub mod CallRefusal
