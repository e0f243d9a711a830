mod Appended
mod Forms
mod Views
